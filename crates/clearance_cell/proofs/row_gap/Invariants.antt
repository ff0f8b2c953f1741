-- `row_gap` finds the nearest byte below the level: the invariant is that none stands nearer than the gap reached.
use Prim.Native.Nat.{ℕ, ◌<◌}
use Rattle.clearance_cell.specs.Search.{Free}
use Rattle.clearance_cell.proofs.row_gap.Given as goal

abbrev pub invariant-loop-gap : goal.invariant-loop-gap
invariant-loop-gap l = (i : ℕ) → i < l.gap → Free l.map l.level l.place i
