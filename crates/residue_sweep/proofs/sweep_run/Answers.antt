use mathlib.Core.Path.{ap, ◌∙◌}
use Prim.Native.Nat.{◌+◌}
use native.Mathlib.Omega.{arith}
use lib.ListN.{get_or}
use Rattle.window.specs.Windows.{window_min, window_max}
use Rattle.residue_marks.specs.Marks.{mark_of}
use Rattle.residue_sweep.proofs.Sweeping.{sweep-none, sweep-more}
use Rattle.residue_sweep.proofs.sweep_run.Goals as goal

pub loop-i-init : goal.loop-i-init
loop-i-init c = sweep-none _ _ _ _ _

pub window_in-win-requires : goal.window_in-win-requires
window_in-win-requires c = (omega arith, omega arith)

pub loop-i-preserved : goal.loop-i-preserved
loop-i-preserved c =
    let given = c.args in
    sweep-more _ _ _ _ _ _ _ _ _ _ _ _ _ _ c.loop-i.invariant (omega arith) (omega arith)
    (c.mark-v.ensures ∙ ap (mark_of (get_or c.loop-i.prev (given.places.start + c.loop-i.i) 0))
    (c.window_max.ensures ∙ ap (window_max given.kind) c.window_in-win.ensures))
    (c.window_min-low.ensures ∙ ap (window_min given.kind) c.window_in-win.ensures)
    c.max-deepest.ensures c.max-top.ensures
