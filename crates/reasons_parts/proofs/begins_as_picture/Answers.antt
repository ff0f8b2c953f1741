-- `begins_as_picture` tries two bytes, one after the other.
use borrow.Author.Tests.{eq-eqb, ne_eqb}
use Rattle.reasons_parts.proofs.begins_as_picture.Goals as goal

pub returns-then-byte_behind-ne80 : goal.returns-then-byte_behind-ne80
returns-then-byte_behind-ne80 c = simp (← c.byte_behind.ensures.0, ne_eqb _ _ c.if-byte_behind-ne80.true)

pub returns : goal.returns
returns c =
    simp (← c.byte_behind.ensures.0, eq-eqb _ _ c.if-byte_behind-ne80.false, c.byte_behind-2.ensures.0)
