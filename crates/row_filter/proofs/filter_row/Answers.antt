-- `filter_row` reads the row below and writes one row.
use native.Mathlib.Omega.{arith}
use Rattle.row_filter.proofs.InPlace.{row-stretch}
use Rattle.row_filter.proofs.filter_row.Goals as goal

pub overflow_mul-from : goal.overflow_mul-from
overflow_mul-from c =
    omega (arith, row-stretch _ _ _ _ c.args.y _ c.requires (omega (arith, c.requires.here)))

pub overflow_add-from : goal.overflow_add-from
overflow_add-from c =
    omega (arith, row-stretch _ _ _ _ c.args.y _ c.requires (omega (arith, c.requires.here)))

pub filter_run-requires : goal.filter_run-requires
filter_run-requires c = (
  row-stretch _ _ _ _ c.args.y _ c.requires (omega (arith, c.requires.here)),
  omega (arith, c.requires.sides.narrow),
)

pub returns : goal.returns
returns c =
    record { map_is = c.filter_run.ensures; below-is = c.read_row.ensures }
