-- `cross_rows` makes the highest of each window, row after row: the invariant is `FilteredTo` the row reached.
use Prim.Native.Nat.{◌-◌}
use Rattle.row_filter.specs.declared.Leaf.TheVariants as v
use Rattle.row_filter.proofs.InPlace.{FilteredTo}
use Rattle.cross_filter.proofs.cross_rows.Given as goal

abbrev pub invariant-loop-y : goal.invariant-loop-y
invariant-loop-y l = FilteredTo l.head l.edge l.initial.map v.Highest l.y l.above l.mid l.below l.map

abbrev pub decreases-loop-y : goal.decreases-loop-y
decreases-loop-y l = l.head.height - l.y
