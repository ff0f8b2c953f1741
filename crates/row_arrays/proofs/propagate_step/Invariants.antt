-- `propagate_step` fills with the highest of three places a step apart: the invariant is `Filled` up to the place reached.
use Rattle.buffers.specs.Fill.{Filled}
use Rattle.row_arrays.specs.Rows.{margin, propagated_at}
use Rattle.row_arrays.proofs.propagate_step.Given as goal

abbrev pub invariant-loop-n : goal.invariant-loop-n
invariant-loop-n l = Filled (propagated_at l.src l.step) margin l.n l.initial.dst l.dst
