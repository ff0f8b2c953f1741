-- `begins_as_job` tries three bytes, one after the other.
use borrow.Author.Tests.{eq-eqb, ne_eqb}
use Rattle.reasons_parts.proofs.begins_as_job.Goals as goal

pub returns-then-byte_behind-ne1 : goal.returns-then-byte_behind-ne1
returns-then-byte_behind-ne1 c = simp (← c.byte_behind.ensures.0, ne_eqb _ _ c.if-byte_behind-ne1.true)

pub returns-then-byte_behind-ne0 : goal.returns-then-byte_behind-ne0
returns-then-byte_behind-ne0 c =
    simp (
      ← c.byte_behind.ensures.0,
      eq-eqb _ _ c.if-byte_behind-ne1.false,
      ← c.byte_behind-2.ensures.0,
      ne_eqb _ _ c.if-byte_behind-ne0.true,
    )

pub returns : goal.returns
returns c =
    rw (
      ← c.byte_behind.ensures.0,
      eq-eqb _ _ c.if-byte_behind-ne1.false,
      ← c.byte_behind-2.ensures.0,
      eq-eqb _ _ c.if-byte_behind-ne0.false,
      c.byte_behind-3.ensures.0,
    )
