-- `header_length` measures two numerals.
use native.Mathlib.Omega.{arith}
use Rattle.numerals.proofs.Sizes.{numeral-most}
use Rattle.pgm_copies.proofs.Copying.{header-size}
use Rattle.pgm_copies.proofs.header_length.Goals as goal

pub overflow_add-result : goal.overflow_add-result
overflow_add-result c = omega (arith, c.digit_count.ensures, numeral-most c.args.width)

pub overflow_add-result-2 : goal.overflow_add-result-2
overflow_add-result-2 c =
    omega (
      arith,
      c.digit_count.ensures,
      numeral-most c.args.width,
      c.digit_count-2.ensures,
      numeral-most c.args.height,
    )

pub returns : goal.returns
returns c =
    omega (
      arith,
      c.digit_count.ensures,
      c.digit_count-2.ensures,
      header-size c.args.width c.args.height,
    )
