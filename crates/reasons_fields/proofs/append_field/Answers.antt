-- `append_field` puts three phrases, one behind the other.
use native.Mathlib.Nat.{add-zero}
use Rattle.phrases.proofs.Appends.{appended_then}
use Rattle.reasons_fields.proofs.append_field.Goals as goal

pub returns : goal.returns
returns c =
    rw (
      ← rw (add-zero c.args.place) at c.byte_behind.ensures.0,
      ← c.length_at.ensures,
    )
    (appended_then c.requires
    (appended_then c.requires c.append_phrase-a.ensures
    c.append_phrase-b.ensures) c.append_phrase.ensures)
