-- `append_sample` appends one part behind the other.
use Rattle.phrases.proofs.Appends.{appended_then}
use Rattle.pgm_sentences.proofs.append_sample.Goals as goal

pub returns : goal.returns
returns c =
    appended_then c.requires
    (appended_then c.requires c.append_phrase-a.ensures
    c.append_phrase-b.ensures) c.append_number.ensures
