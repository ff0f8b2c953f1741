-- `begins_as_scan` tries the first byte for the two kinds.
use borrow.Author.Tests.{eq-eqb, ne_eqb}
use Rattle.reasons_parts.proofs.begins_as_scan.Goals as goal

pub returns-then-byte_behind-eq4 : goal.returns-then-byte_behind-eq4
returns-then-byte_behind-eq4 c = simp (← c.byte_behind.ensures.0, eq-eqb _ _ c.if-byte_behind-eq4.true)

pub returns : goal.returns
returns c =
    simp (← c.byte_behind.ensures.0, ne_eqb _ _ c.if-byte_behind-eq4.false, c.byte_behind-2.ensures.0)
