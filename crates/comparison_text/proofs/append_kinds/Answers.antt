-- `append_kinds` puts two kinds.
use Rattle.phrases.proofs.Appends.{appended_then}
use Rattle.comparison_text.proofs.append_kinds.Goals as goal

pub returns : goal.returns
returns c =
    let pre = c.requires in
    rw (← c.number_in.ensures, ← c.number_in-2.ensures)
    (appended_then pre c.append_phrase-next.ensures c.append_phrase.ensures)
