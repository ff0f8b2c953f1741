-- `finish_run` fills with what the numbers say: the invariant is `Filled` up to the place reached, which still has its old number.
use lib.ListN.{get_or}
use Rattle.buffers.specs.Fill.{Filled}
use Rattle.distance_transform.specs.Transform.{finish}
use Rattle.distance_transform.proofs.finish_run.Given as goal

abbrev pub invariant-loop-v : goal.invariant-loop-v
invariant-loop-v l = Filled (λ n. finish l.seeds (get_or l.fn.out n 0)) 0 l.v-index l.initial.v-items l.v-items
