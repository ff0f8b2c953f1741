-- `store_row` copies the columns as one part.
use mathlib.Core.Path.{ap}
use Prim.Native.Nat.{◌+◌}
use lib.ListN.{get_or}
use native.Mathlib.Omega.{arith}
use Rattle.buffers.proofs.Fill.{filled-copied}
use Rattle.row_arrays.specs.Rows.{margin}
use Rattle.row_arrays.proofs.store_row.Goals as goal

pub returns : goal.returns
returns c =
    filled-copied _ _ _ _ _ _ (omega arith) (omega arith) c.args.row.now margin _ c.copy_from_slice.ensures.after (omega arith) (omega arith)
    (λ n h. ap (λ j. get_or c.args.row.now (margin + j) 0) (omega arith))
