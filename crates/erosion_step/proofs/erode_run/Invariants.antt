-- `erode_run` fills with the lowest of nine: the invariant is `Eroded` up to the place reached.
use Rattle.erosion_step.specs.Steps.{Eroded}
use Rattle.erosion_step.proofs.erode_run.Given as goal

abbrev pub invariant-loop-n : goal.invariant-loop-n
invariant-loop-n l = Eroded l.kind l.src l.width l.from l.n l.initial.dst l.dst l.top
