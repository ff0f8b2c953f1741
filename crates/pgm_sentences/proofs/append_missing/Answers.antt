-- `append_missing` appends the name and the place.
use Rattle.phrases.proofs.Appends.{appended_then}
use Rattle.pgm_sentences.proofs.append_missing.Goals as goal

pub returns : goal.returns
returns c =
    appended_then c.requires c.append-a.ensures c.append_place.ensures
