-- `mark_run` fills with marks: the invariant is `Filled` up to the place reached, which still has its old mark.
use Prim.Native.Nat.{◌+◌, ◌-◌}
use lib.ListN.{get_or}
use Rattle.buffers.specs.Fill.{Filled}
use Rattle.row_arrays.specs.Rows.{margin}
use Rattle.wide_reconstruct.specs.Marks.{marked}
use Rattle.wide_reconstruct.proofs.mark_run.Given as goal

abbrev pub invariant-loop-n : goal.invariant-loop-n
invariant-loop-n l =
    Filled (λ n. marked (get_or l.row (margin + (n - l.from)) 0) (get_or l.initial.out n 0)) l.from l.n l.initial.out l.out
