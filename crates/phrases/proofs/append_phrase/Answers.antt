-- `append_phrase` puts three texts, one behind the other.
use Rattle.phrases.proofs.Appends.{appended_then}
use Rattle.phrases.proofs.append_phrase.Goals as goal

pub returns : goal.returns
returns c =
    let pre = c.requires in
    appended_then pre (appended_then pre c.append-a.ensures c.append_number-b.ensures)
    c.append.ensures
