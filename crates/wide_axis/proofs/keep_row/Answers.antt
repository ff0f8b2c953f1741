-- `keep_row` reads the row below and stores one row.
use native.Mathlib.Omega.{arith}
use Rattle.wide_axis.proofs.Pass.{row-bytes}
use Rattle.wide_axis.proofs.keep_row.Goals as goal

-- the row's bytes lie in the map

pub overflow_mul-y : goal.overflow_mul-y
overflow_mul-y c = omega (arith, row-bytes c.args.head c.args.y _ (omega (arith, c.requires.here)) c.requires.room)

pub keep_run-requires : goal.keep_run-requires
keep_run-requires c = (row-bytes c.args.head c.args.y _ (omega (arith, c.requires.here)) c.requires.room, c.requires.held.narrow)
