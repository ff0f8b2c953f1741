-- `filter_run` fills a stretch with what is made of each window: the invariant is `Filled` up to the place reached.
use Prim.Native.Nat.{◌+◌, ◌-◌}
use Rattle.buffers.specs.Fill.{Filled}
use Rattle.row_arrays.specs.Rows.{margin}
use Rattle.row_filter.specs.Filter.{leaf, window_rows}
use Rattle.row_filter.proofs.filter_run.Given as goal

abbrev pub invariant-loop-n : goal.invariant-loop-n
invariant-loop-n l = Filled (λ n. leaf l.made l.kind (window_rows l.above l.mid l.below (margin + (n - l.from)))) l.from l.n l.initial.map l.map
