-- The test before tells that the bits are no NaN's.
use Rattle.test_motions.proofs.Floats.{not-nan-bits}
use borrow.Author.Rules.{rules}
use Rattle.test_motions.proofs.float_of.Goals as goal

pub float_from_bits-result : goal.float_from_bits-result
float_from_bits-result c = not-nan-bits c.args.bits _ c.is_nan.ensures c.if-is_nan.false
