-- `keep_axis` keeps of each row, row after row: the invariant is `KeptTo` the row reached.
use Rattle.wide_axis.proofs.Pass.{KeptTo}
use Rattle.wide_axis.proofs.keep_axis.Given as goal

abbrev pub invariant-loop-y : goal.invariant-loop-y
invariant-loop-y l = KeptTo l.head l.initial.out l.y l.above l.mid l.below l.out
