-- `append_plunge` puts two phrases, one behind the other.
use Rattle.phrases.proofs.Appends.{appended_then}
use Rattle.reasons_fields.proofs.append_plunge.Goals as goal

pub returns : goal.returns
returns c =
    rw (← c.plunge_number.ensures)
    (appended_then c.requires c.append_phrase-next.ensures
    c.append_phrase.ensures)
