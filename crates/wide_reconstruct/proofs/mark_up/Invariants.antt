-- `mark_up` does so for every row, from the last on: the invariant is `UpTo` the row reached.
use Rattle.wide_reconstruct.proofs.Marks.{UpTo}
use Rattle.wide_reconstruct.proofs.mark_up.Given as goal

abbrev pub invariant-loop-y : goal.invariant-loop-y
invariant-loop-y l = UpTo l.head l.map l.y l.initial.out l.row l.spare l.below l.out
