-- `pass_up` does so for every row, from the last on: the invariant is `UpTo` the row reached.
use Rattle.distance_transform.proofs.Passes.{UpTo}
use Rattle.distance_transform.proofs.pass_up.Given as goal

abbrev pub invariant-loop-y : goal.invariant-loop-y
invariant-loop-y l = UpTo l.head l.y l.initial.out l.row l.below l.out
