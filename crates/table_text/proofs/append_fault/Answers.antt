-- `append_fault` puts the sentence of the refusal's number.
use Rattle.table_text.proofs.append_fault.Goals as goal

pub returns-in-6 : goal.returns-in-6
returns-in-6 c =
    rw c.in-6.is c.append_cut.ensures

pub returns-in-7 : goal.returns-in-7
returns-in-7 c =
    rw c.in-7.is c.append_other.ensures

pub returns-in-11 : goal.returns-in-11
returns-in-11 c =
    rw c.in-11.is c.append_phrase.ensures
