-- `keep_run` stores what is kept of each place: the invariant is `WideFilled` up to the number reached.
use Prim.Native.Nat.{◌+◌, ◌-◌}
use Rattle.row_arrays.specs.Rows.{margin}
use Rattle.wide_rows.specs.Wide.{WideFilled}
use Rattle.row_filter.specs.Filter.{window_rows, kept}
use Rattle.wide_axis.proofs.keep_run.Given as goal

abbrev pub invariant-loop-n : goal.invariant-loop-n
invariant-loop-n l = WideFilled (λ n. kept l.kind (window_rows l.above l.mid l.below (margin + (n - l.from)))) l.from l.n l.initial.out l.out
