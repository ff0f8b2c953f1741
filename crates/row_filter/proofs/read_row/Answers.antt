-- `read_row` leaves the columns between the edges in the array, and zeros for the first row of the lower edge.
use native.Mathlib.Omega.{arith}
use Rattle.row_filter.proofs.InPlace.{row-stretch, row_read, row-cleared}
use Rattle.row_filter.proofs.read_row.Goals as goal

pub overflow_mul-y : goal.overflow_mul-y
overflow_mul-y c =
    omega (arith, row-stretch _ _ _ _ c.args.y _ c.requires (omega (arith, c.if-y-edge.true)))

pub overflow_add-y-then-y-edge : goal.overflow_add-y-then-y-edge
overflow_add-y-then-y-edge c =
    omega (arith, row-stretch _ _ _ _ c.args.y _ c.requires (omega (arith, c.if-y-edge.true)))

pub load_run-requires : goal.load_run-requires
load_run-requires c = (
  row-stretch _ _ _ _ c.args.y _ c.requires (omega (arith, c.if-y-edge.true)),
  omega (arith, c.requires.sides.narrow),
  c.requires.margins.size,
)

pub returns-then-y-edge : goal.returns-then-y-edge
returns-then-y-edge c =
    row_read c.args.head c.args.edge c.args.map.now c.args.y _ _ c.requires.margins
    c.if-y-edge.true c.load_run.ensures

pub returns-else-y-edge : goal.returns-else-y-edge
returns-else-y-edge c =
    row-cleared c.args.head c.args.edge c.args.map.now c.args.y _ _ c.requires.margins
    c.if-y-edge.false c.zero_run.ensures
