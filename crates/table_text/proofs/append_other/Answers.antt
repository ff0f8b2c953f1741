-- `append_other` puts three phrases and the length, one behind the other.
use Rattle.phrases.proofs.Appends.{appended_then}
use Rattle.table_text.proofs.append_other.Goals as goal

pub returns : goal.returns
returns c =
    rw (← c.byte_behind-tag.ensures.0, ← c.pair_behind-size.ensures)
    (appended_then c.requires
    (appended_then c.requires
    (appended_then c.requires c.append_phrase-a.ensures
    c.append_phrase-b.ensures) c.append_phrase-c.ensures)
    c.append_number.ensures)
