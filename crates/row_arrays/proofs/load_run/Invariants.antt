-- `load_run` fills with seeds that are no lower than the floor: the invariant is `Filled` up to the place reached.
use Prim.Native.Nat.{◌+◌, ◌-◌, max}
use lib.ListN.{get_or}
use Rattle.buffers.specs.Fill.{Filled}
use Rattle.row_arrays.specs.Rows.{margin}
use Rattle.row_arrays.specs.Start.{seed}
use Rattle.row_arrays.proofs.load_run.Given as goal

abbrev pub invariant-loop-n : goal.invariant-loop-n
invariant-loop-n l =
    Filled (λ n. max (seed l.seeds (get_or l.map (l.from + (n - margin)) 0)) l.floor) margin l.n l.initial.row l.row
