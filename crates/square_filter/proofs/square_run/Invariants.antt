-- `square_run` leaves the highest of three rows of threes, place by place: the invariant is `SquaredRun` up to the place reached.
use Rattle.square_filter.specs.Square.{SquaredRun}
use Rattle.square_filter.proofs.square_run.Given as goal

abbrev pub invariant-loop-i : goal.invariant-loop-i
invariant-loop-i l = SquaredRun l.from l.width l.i l.initial.above l.mid l.above l.initial.map l.map
