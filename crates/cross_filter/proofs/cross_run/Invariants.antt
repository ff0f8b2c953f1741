-- `cross_run` makes the highest of each window and leaves the row below in its array: the invariant is `CrossedRun` up to the place reached.
use Rattle.cross_filter.specs.Cross.{CrossedRun}
use Rattle.cross_filter.proofs.cross_run.Given as goal

abbrev pub invariant-loop-i : goal.invariant-loop-i
invariant-loop-i l = CrossedRun l.from l.width l.i l.above l.mid l.initial.below l.below l.initial.map l.map
