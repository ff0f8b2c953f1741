-- `append_sides` puts two phrases and the largest side, one behind the other.
use Rattle.phrases.proofs.Appends.{appended_then}
use Rattle.reasons_parts.proofs.append_sides.Goals as goal

pub returns : goal.returns
returns c =
    let pre = c.requires in
    appended_then pre
    (appended_then pre c.append_phrase-a.ensures c.append_phrase-b.ensures)
    c.append_number.ensures
