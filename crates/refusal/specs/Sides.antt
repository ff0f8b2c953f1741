-- Serves proofs: the sides of a plate that passed refusal 2.
use Rattle.std.specs.Prelude.{◌≤◌}
use Rattle.geometry.specs.declared.Head.{Head}
use Rattle.refusal.specs.Refusals.{largest_side}

-- a plate of sides from 1 to the largest
pub record Sides (p : Head) : Type 0 where
  pub wide : 1 ≤ p.width
  pub narrow : p.width ≤ largest_side
  pub tall : 1 ≤ p.height
  pub low : p.height ≤ largest_side
