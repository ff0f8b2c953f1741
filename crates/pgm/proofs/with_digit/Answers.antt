-- `with_digit` adds a digit to a number that has room for it.
use native.Mathlib.Omega.{arith}
use Rattle.decimal.proofs.Scans.{digit-least}
use Rattle.pgm.proofs.with_digit.Goals as goal

pub overflow_sub-more : goal.overflow_sub-more
overflow_sub-more c = omega (arith, digit-least c.args.b c.requires.1)
