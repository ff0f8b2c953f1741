-- `pass_down` does so for every row: the invariant is `DownTo` the row reached.
use Rattle.row_arrays.specs.Start.{seed, start}
use Rattle.distance_transform.proofs.Passes.{DownTo}
use Rattle.distance_transform.proofs.pass_down.Given as goal

abbrev pub invariant-loop-y : goal.invariant-loop-y
invariant-loop-y l = DownTo l.head (start l.head (seed l.seeds) l.map) l.y l.initial.out l.row l.spare l.above l.out
