-- `pass_up` does so for every row, from the last on: the invariant is `UpTo` the row reached.
use Rattle.wide_rows.specs.Wide.{wide_numbers}
use Rattle.distance_transform.proofs.Passes.{UpTo}
use Rattle.wide_transform.specs.Passes.{WideOnly}
use Rattle.wide_transform.proofs.pass_up.Given as goal

abbrev pub invariant-loop-y : goal.invariant-loop-y
invariant-loop-y l = UpTo l.head l.y (wide_numbers l.initial.out) l.row l.below (wide_numbers l.out) × WideOnly l.head l.initial.out l.out
