-- `append_place` appends name, text and number.
use Rattle.phrases.proofs.Appends.{appended_then}
use Rattle.pgm_sentences.proofs.append_place.Goals as goal

pub returns : goal.returns
returns c =
    appended_then c.requires
    (appended_then c.requires c.append_quantity-a.ensures c.append-b.ensures)
    c.append_number.ensures
