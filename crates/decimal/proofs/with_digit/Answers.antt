-- `with_digit` keeps at most 15 digits, which fit.
use Rattle.std.proofs.Common.{arith}
use Rattle.decimal.proofs.Scans.{room, room-unit}
use Rattle.decimal.proofs.with_digit.Goals as goal

pub overflow_mul-result : goal.overflow_mul-result
overflow_mul-result c = omega (arith, room c.args.s c.requires.0 c.if-s-lt15.true)

pub overflow_add-result : goal.overflow_add-result
overflow_add-result c = omega (arith, room c.args.s c.requires.0 c.if-s-lt15.true)

pub overflow_mul-result-then-s-lt15 : goal.overflow_mul-result-then-s-lt15
overflow_mul-result-then-s-lt15 c =
    omega (arith, room-unit c.args.s c.factor.result c.requires.0 c.if-s-lt15.true c.factor.ensures)
