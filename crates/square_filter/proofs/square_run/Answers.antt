use mathlib.Core.Path.{ap, ◌∙◌}
use Prim.Native.Nat.{ℕ, max}
use native.Mathlib.Omega.{arith}
use Rattle.square_filter.proofs.Square.{squared-none, squared-more}
use Rattle.square_filter.proofs.square_run.Goals as goal

pub loop-i-init : goal.loop-i-init
loop-i-init c = squared-none _ _ _ _ _

pub loop-i-preserved : goal.loop-i-preserved
loop-i-preserved c =
    squared-more _ _ _ _ _ _ _ _ _ _ c.requires.some c.loop-i.invariant (omega arith) (omega arith) c.highest_three-three.ensures
    (c.max-in-loop-i.ensures ∙ ap (λ (n : ℕ). max n c.highest_three-three.result) c.max.ensures)
