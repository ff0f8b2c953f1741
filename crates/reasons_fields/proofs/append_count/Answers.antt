-- `append_count` puts three phrases, one behind the other.
use Rattle.phrases.proofs.Appends.{appended_then}
use Rattle.reasons_fields.proofs.append_count.Goals as goal

pub returns : goal.returns
returns c =
    rw (← c.number_at.ensures, ← c.plunge_number.ensures)
    (appended_then c.requires
    (appended_then c.requires c.append_phrase-a.ensures
    c.append_phrase-b.ensures) c.append_phrase.ensures)
