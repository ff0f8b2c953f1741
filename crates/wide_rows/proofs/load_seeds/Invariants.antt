-- `load_seeds` fills with seeds that are no lower than the floor: the invariant is `Filled` up to the place reached.
use Prim.Native.Nat.{◌+◌, ◌-◌, max}
use lib.ListN.{get_or}
use Rattle.buffers.specs.Fill.{Filled}
use Rattle.row_arrays.specs.Rows.{margin}
use Rattle.row_arrays.specs.Start.{wall_number}
use Rattle.wide_rows.specs.Wide.{wide_wall}
use Rattle.wide_rows.proofs.load_seeds.Given as goal

abbrev pub invariant-loop-n : goal.invariant-loop-n
invariant-loop-n l = Filled (λ n. max (wall_number wide_wall l.level (get_or l.relief (l.from + (n - margin)) 0)) l.floor) margin l.n l.initial.row l.row
