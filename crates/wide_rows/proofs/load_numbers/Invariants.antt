-- `load_numbers` fills with the map's numbers: the invariant is `Filled` up to the place reached.
use Prim.Native.Nat.{◌+◌, ◌-◌}
use lib.ListN.{get_or}
use Rattle.buffers.specs.Fill.{Filled}
use Rattle.row_arrays.specs.Rows.{margin}
use Rattle.wide_rows.specs.Wide.{wide_numbers}
use Rattle.wide_rows.proofs.load_numbers.Given as goal

abbrev pub invariant-loop-n : goal.invariant-loop-n
invariant-loop-n l = Filled (λ n. get_or (wide_numbers l.map) (l.from + (n - margin)) 0) margin l.n l.initial.row l.row
