-- `mark_down` does so for every row: the invariant is `DownTo` the row reached.
use Rattle.wide_reconstruct.proofs.Marks.{DownTo}
use Rattle.wide_reconstruct.proofs.mark_down.Given as goal

abbrev pub invariant-loop-y : goal.invariant-loop-y
invariant-loop-y l = DownTo l.head l.map l.y l.initial.out l.row l.spare l.above l.out
