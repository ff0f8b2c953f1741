-- `append_job_fault` puts the sentence of the refusal's number.
use Rattle.reasons.proofs.append_job_fault.Goals as goal

pub returns-in-1 : goal.returns-in-1
returns-in-1 c =
    rw (c.in-1.is, ← c.byte_behind.ensures.0) c.append_kind.ensures

pub returns-in-2 : goal.returns-in-2
returns-in-2 c =
    rw
    (c.in-2.is, ← c.byte_behind-in-2.ensures.0, ← c.byte_behind-in-2-2.ensures.0)
    c.append_sides.ensures

pub returns-in-6 : goal.returns-in-6
returns-in-6 c =
    rw c.in-6.is c.append_ends.ensures

pub returns-in-7 : goal.returns-in-7
returns-in-7 c =
    rw c.in-7.is c.append_field.ensures

pub returns-in-8 : goal.returns-in-8
returns-in-8 c =
    rw c.in-8.is c.append_plunge.ensures

pub returns-in-9 : goal.returns-in-9
returns-in-9 c =
    rw c.in-9.is c.append_plunge-in-9.ensures

pub returns-in-10 : goal.returns-in-10
returns-in-10 c =
    rw c.in-10.is c.append_count.ensures

pub returns-in-11 : goal.returns-in-11
returns-in-11 c =
    rw c.in-11.is c.append_surplus.ensures

pub returns-in-12 : goal.returns-in-12
returns-in-12 c =
    rw c.in-12.is c.append_untidy.ensures
