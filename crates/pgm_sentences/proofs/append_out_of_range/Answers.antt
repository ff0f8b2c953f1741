-- `append_out_of_range` appends one part behind the other.
use Rattle.phrases.proofs.Appends.{appended_then}
use Rattle.pgm_sentences.proofs.append_out_of_range.Goals as goal

pub returns : goal.returns
returns c =
    appended_then c.requires
    (appended_then c.requires
    (appended_then c.requires
    (appended_then c.requires c.append-a.ensures c.append_place-b.ensures)
    c.append-c.ensures) c.append_found-d.ensures) c.append_range.ensures
