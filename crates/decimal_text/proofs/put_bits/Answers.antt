-- `put_bits` goes by the exponent field.
use Rattle.decimal_text.proofs.Sizes.{half_pos}
use Rattle.decimal_text.proofs.Shortest.{digits-few}
use Rattle.decimal_text.proofs.Texts.{put_same}
use Rattle.decimal_text.proofs.Floats.{bits_below, bits_above, bits-within}
use Rattle.decimal_text.proofs.put_bits.Goals as goal

pub returns-then-field-lt1013 : goal.returns-then-field-lt1013
returns-then-field-lt1013 c =
    put_same _ _ _ _ c.args.at _ (bits_below c.args.bits c.if-field-lt1013.true)
    c.put_hexadecimal.ensures

pub returns-then-field-gt1042 : goal.returns-then-field-gt1042
returns-then-field-gt1042 c =
    put_same _ _ _ _ c.args.at _ (bits_above c.args.bits c.if-field-lt1013.false c.if-field-gt1042.true)
    c.put_hexadecimal-then-field-gt1042.ensures

pub digits_of-d-requires : goal.digits_of-d-requires
digits_of-d-requires c = rw c.parts_of-parts.ensures (half_pos _ _)

pub put_parts-requires : goal.put_parts-requires
put_parts-requires c = rw c.digits_of-d.ensures (digits-few _ _)

pub returns : goal.returns
returns c =
    put_same _ _ _ _ c.args.at _
    (bits-within c.args.bits c.parts_of-parts.result c.digits_of-d.result
    c.if-field-lt1013.false c.if-field-gt1042.false c.parts_of-parts.ensures c.digits_of-d.ensures)
    c.put_parts.ensures
