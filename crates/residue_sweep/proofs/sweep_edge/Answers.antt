use Rattle.residue_sweep.proofs.Sweeping.{sweep-none, sweep-more}
use Rattle.residue_marks.specs.Marks.{mark_of}
use Rattle.residue_sweep.specs.Sweeps.{beside_window}
use Rattle.window.specs.Windows.{window_max}
use lib.ListN.{get_or}
use native.Mathlib.Omega.{arith}
use Prim.Native.Nat.{ℕ, ◌+◌, ◌-◌}
use mathlib.Core.Path.{◌≡◌, refl, ap, ◌∙◌}
use Rattle.residue_sweep.proofs.sweep_edge.Goals as goal

pub loop-i-init : goal.loop-i-init
loop-i-init c = sweep-none _ _ _ _ _

pub loop-i-preserved : goal.loop-i-preserved
loop-i-preserved c =
    let given = c.args in
    let e : given.beside + c.loop-i.i ≡ given.beside +
    (given.places.start + c.loop-i.i - given.places.start) = omega arith in
    sweep-more _ _ _ _ _ _ _ _ _ _ _ _ _ _ c.loop-i.invariant (omega arith) (omega arith)
    (c.mark-v.ensures ∙ ap (mark_of (get_or c.loop-i.prev (given.places.start + c.loop-i.i) 0))
    (c.window_max.ensures ∙ ap (λ (j : ℕ). window_max given.kind (beside_window given.cur.now j))
    e)) refl c.max-deepest.ensures refl
