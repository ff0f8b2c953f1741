-- The test before tells that the number is no NaN.
use Rattle.test_motion_io.proofs.Floats.{equals_itself}
use borrow.Author.Rules.{rules}
use Rattle.test_motion_io.proofs.print_float.Goals as goal

pub float_to_bits-x : goal.float_to_bits-x
float_to_bits-x c = equals_itself c.args.x c.if-x.true
