-- `append_rule` puts three phrases and the largest entry, one behind the other.
use native.Mathlib.Nat.{add-zero}
use Rattle.phrases.proofs.Appends.{appended_then}
use Rattle.table_text.proofs.append_rule.Goals as goal

pub returns : goal.returns
returns c =
    rw (
      ← c.entry_number-number.ensures,
      ← rw (add-zero c.args.place) at c.pair_behind-entry.ensures,
    )
    (appended_then c.requires
    (appended_then c.requires
    (appended_then c.requires c.append_phrase-a.ensures
    c.append_phrase-b.ensures) c.append_phrase-c.ensures)
    c.append_number.ensures)
