-- `filter_rows` makes a number of each window, row after row: the invariant is `FilteredTo` the row reached.
use Rattle.row_filter.proofs.InPlace.{FilteredTo}
use Rattle.row_filter.proofs.filter_rows.Given as goal

abbrev pub invariant-loop-y : goal.invariant-loop-y
invariant-loop-y l = FilteredTo l.head l.edge l.initial.map l.made l.y l.above l.mid l.below l.map
