-- `put_number` tells a NaN by its not being equal to itself.
use Rattle.decimal_text.proofs.Texts.{put_same}
use Rattle.decimal_text.proofs.Floats.{is_number, number-nan, number-bits}
use Rattle.decimal_text.proofs.put_number.Goals as goal

pub returns-then-x : goal.returns-then-x
returns-then-x c =
    put_same _ _ _ _ c.args.at _ (number-nan c.args.x c.if-x.true) c.put_nan.ensures

pub float_to_bits-x : goal.float_to_bits-x
float_to_bits-x c = rw (is_number c.args.x c.if-x.false) tt

pub returns : goal.returns
returns c =
    put_same _ _ _ _ c.args.at _ (number-bits c.args.x c.if-x.false)
    c.put_bits.ensures
