-- `append_short` appends one part behind the other.
use Rattle.phrases.proofs.Appends.{appended_then}
use Rattle.pgm_sentences.proofs.append_short.Goals as goal

pub returns : goal.returns
returns c =
    appended_then c.requires
    (appended_then c.requires c.append_phrase-a.ensures c.append_number-b.ensures)
    c.append.ensures
