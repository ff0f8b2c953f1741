-- `square_rows` makes the highest of each window, row after row: the invariant is `SquaredTo` the row reached.
use Prim.Native.Nat.{◌-◌}
use Rattle.square_filter.proofs.Square.{SquaredTo}
use Rattle.square_filter.proofs.square_rows.Given as goal

abbrev pub invariant-loop-y : goal.invariant-loop-y
invariant-loop-y l = SquaredTo l.head l.edge l.initial.map l.y l.above l.mid l.map

abbrev pub decreases-loop-y : goal.decreases-loop-y
decreases-loop-y l = l.head.height - l.y
