-- `append_sizes` puts two sizes.
use Rattle.phrases.proofs.Appends.{appended_then}
use Rattle.comparison_text.proofs.append_sizes.Goals as goal

pub returns : goal.returns
returns c =
    let pre = c.requires in
    appended_then pre (appended_then pre c.append-a.ensures c.append_size-b.ensures)
    c.append_size.ensures
