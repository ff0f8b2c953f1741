use mathlib.Core.Path.{◌∙◌}
use native.Mathlib.Omega.{arith}
use Rattle.numerals.proofs.Digits.{digits_more}
use Rattle.numerals.proofs.put_digits.Goals as goal

pub loop-i-preserved : goal.loop-i-preserved
loop-i-preserved c =
    digits_more c.loop-i.out c.args.base c.args.at c.loop-i.i c.loop-i.left c.digit_byte.result c.loop-i-test.true
    (omega (arith, c.loop-i.auto.out)) c.digit_byte.ensures ∙ c.loop-i.invariant
