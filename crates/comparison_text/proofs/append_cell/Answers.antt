-- `append_cell` puts the cell and both depths.
use Rattle.phrases.proofs.Appends.{appended_then}
use Rattle.comparison_text.proofs.append_cell.Goals as goal

pub returns : goal.returns
returns c =
    let pre = c.requires in
    rw (← c.from.ensures, ← c.from-2.ensures)
    (appended_then pre
    (appended_then pre
    (appended_then pre c.append_phrase-x.ensures c.append_phrase-y.ensures)
    c.append_phrase-z.ensures) c.append_phrase.ensures)
