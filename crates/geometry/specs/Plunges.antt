-- To be believed: a plunge: what it holds, what it lies inside, where its ball lies (document 01, "Rungs, residues and listing").
-- What a plunge says of itself by a test has its meaning, over all cells of the plane, beside it; the laws join the two.
use Rattle.std.specs.Prelude.{Bool, false, cond, ℕ, ◌+◌, ◌≤◌, leb, ltb}
use Rattle.geometry.specs.declared.Kind.{Kind}
use Rattle.geometry.specs.declared.Head.{Head}
use Rattle.geometry.specs.declared.Plunge.{Plunge}
use Rattle.geometry.specs.Plane.{Cell, cell, dist, Ball}
use Rattle.geometry.specs.Plate.{On}

abbrev pub centre : Plunge → Cell
centre q = cell q.column q.row

-- the cell is in the plunge's ball
abbrev pub Covers : Kind → Plunge → Cell → Type 0
Covers kd q = Ball kd (centre q) q.reach.0

abbrev pub covers : Kind → Plunge → Cell → Bool
covers kd q c = leb (dist kd (centre q) c) q.reach.0

-- all cells of the ball about c are in the ball about d
abbrev pub BallWithin : Kind → Cell → ℕ → Cell → ℕ → Type 0
BallWithin kd c r d s = (o : Cell) → Ball kd c r o → Ball kd d s o

-- inside another: "its ball's cells are all in the other's ball and its depth is no greater"
pub record Inside (kd : Kind) (q o : Plunge) : Type 0 where
  pub ball : BallWithin kd (centre q) q.reach.0 (centre o) o.reach.0
  pub depth : q.depth ≤ o.depth

abbrev pub inside : Kind → Plunge → Plunge → Bool
inside kd q o = cond (leb (dist kd (centre q) (centre o) + q.reach.0) o.reach.0) (leb q.depth o.depth) false

-- "its ball is wholly on the plate"
abbrev pub OnPlate : Head → Plunge → Type 0
OnPlate p q = (o : Cell) → Covers p.kind q o → On p o

abbrev pub fits_plate : Head → Plunge → Bool
fits_plate p q =
    cond (leb q.reach.0 q.column)
    (cond (leb q.reach.0 q.row)
    (cond (ltb (q.column + q.reach.0) p.width) (ltb (q.row + q.reach.0) p.height) false)
    false)
    false
