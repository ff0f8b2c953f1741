-- `store_row` stores the row's numbers: the invariant is `WideFilled` up to the number reached.
use Prim.Native.Nat.{◌+◌, ◌-◌}
use lib.ListN.{get_or}
use Rattle.row_arrays.specs.Rows.{margin}
use Rattle.wide_rows.specs.Wide.{WideFilled}
use Rattle.wide_rows.proofs.store_row.Given as goal

abbrev pub invariant-loop-n : goal.invariant-loop-n
invariant-loop-n l = WideFilled (λ n. get_or l.row (margin + (n - l.from)) 0) l.from l.n l.initial.out l.out
