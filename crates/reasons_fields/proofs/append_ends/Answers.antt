-- `append_ends` puts the sentence of a file that ends where a field would begin, or that of one that ends inside a field.
use borrow.Author.Tests.{eq-eqb, ne_eqb}
use Rattle.reasons_fields.proofs.append_ends.Goals as goal

pub returns-then-place-file : goal.returns-then-place-file
returns-then-place-file c =
    rw (eq-eqb _ _ c.if-place-file.true) c.append_phrase.ensures

pub returns : goal.returns
returns c =
    rw (ne_eqb _ _ c.if-place-file.false) c.append_phrase-2.ensures
