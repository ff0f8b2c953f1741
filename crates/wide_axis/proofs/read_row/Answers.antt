-- `read_row` leaves a row's numbers in the array, and zeros for the row past the last.
use native.Mathlib.Omega.{arith}
use Rattle.wide_rows.specs.Wide.{wide_numbers}
use Rattle.wide_axis.proofs.Pass.{row-bytes, row_read, row-past}
use Rattle.wide_axis.proofs.read_row.Goals as goal

-- the row's bytes lie in the map

pub overflow_mul-y : goal.overflow_mul-y
overflow_mul-y c = omega (arith, row-bytes c.args.head c.args.y _ c.if-y-head.true c.requires.room)

pub load_numbers-requires : goal.load_numbers-requires
load_numbers-requires c = (row-bytes c.args.head c.args.y _ c.if-y-head.true c.requires.room, c.requires.held.narrow, c.requires.margins)

pub returns-then-y-head : goal.returns-then-y-head
returns-then-y-head c =
    row_read c.args.head (wide_numbers c.args.map.now) _ c.args.y c.if-y-head.true c.load_numbers.ensures

pub returns-else-y-head : goal.returns-else-y-head
returns-else-y-head c =
    row-past c.args.head (wide_numbers c.args.map.now) c.args.y c.if-y-head.false
