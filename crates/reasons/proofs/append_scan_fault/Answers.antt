-- `append_scan_fault` puts the sentence of the refusal's number.
use Rattle.reasons.proofs.append_scan_fault.Goals as goal

pub returns-in-1 : goal.returns-in-1
returns-in-1 c =
    rw (c.in-1.is, ← c.byte_behind.ensures.0) c.append_kind.ensures

pub returns-in-2 : goal.returns-in-2
returns-in-2 c =
    rw
    (c.in-2.is, ← c.byte_behind-in-2.ensures.0, ← c.byte_behind-in-2-2.ensures.0)
    c.append_sides.ensures

pub returns-in-4 : goal.returns-in-4
returns-in-4 c =
    rw c.in-4.is c.append_depths.ensures
