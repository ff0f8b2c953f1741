-- `zero_columns` goes row by row: the invariant is `SidesZeroed` up to the row reached.
use Rattle.erosion_step.specs.Steps.{SidesZeroed}
use Rattle.erosion_step.proofs.zero_columns.Given as goal

abbrev pub invariant-loop-y : goal.invariant-loop-y
invariant-loop-y l = SidesZeroed l.width l.height l.y l.initial.dst l.dst
