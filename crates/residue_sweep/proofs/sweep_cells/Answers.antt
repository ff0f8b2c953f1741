use mathlib.Core.Path.{ap, ◌∙◌}
use Prim.Native.Nat.{◌+◌}
use native.Mathlib.Omega.{arith}
use native.Mathlib.Nat.{mod-lt}
use lib.ListN.{get_or}
use Rattle.window.specs.Windows.{window_min, window_max}
use Rattle.window.proofs.Windows.{window-min-near, window-max-near}
use Rattle.residue_marks.specs.Marks.{mark_of}
use Rattle.residue_sweep.specs.Sweeps.{place_cell}
use Rattle.residue_sweep.proofs.Sweeping.{place-row, sweep-none, sweep-more}
use Rattle.residue_sweep.proofs.sweep_cells.Goals as goal

pub loop-i-init : goal.loop-i-init
loop-i-init c = sweep-none _ _ _ _ _

pub overflow_cast-n : goal.overflow_cast-n
overflow_cast-n c =
    omega (arith, mod-lt (c.args.places.start + c.loop-i.i) c.requires.wide)

pub overflow_cast-n-in-loop-i : goal.overflow_cast-n-in-loop-i
overflow_cast-n-in-loop-i c =
    let given = c.args in
    omega (
      arith,
      place-row (given.places.start + c.loop-i.i) given.head.width given.head.height
          c.requires.wide (omega arith),
    )

pub loop-i-preserved : goal.loop-i-preserved
loop-i-preserved c =
    let given = c.args in
    sweep-more _ _ _ _ _ _ _ _ _ _ _ _ _ _ c.loop-i.invariant (omega arith) (omega arith)
    (c.mark-v.ensures ∙ ap (mark_of (get_or c.loop-i.prev (given.places.start + c.loop-i.i) 0))
    (c.window_max.ensures ∙ ap (window_max given.head.kind) c.window_at-win.ensures
    ∙ window-max-near given.head given.cur.now (place_cell given.head.width (given.places.start + c.loop-i.i))))
    (c.window_min-low.ensures ∙ ap (window_min given.head.kind) c.window_at-win.ensures
    ∙ window-min-near given.head given.cur.now (place_cell given.head.width (given.places.start + c.loop-i.i)))
    c.max-deepest.ensures c.max-top.ensures
