-- `append_cut` puts a phrase and the length of the file.
use Rattle.phrases.proofs.Appends.{appended_then}
use Rattle.table_text.proofs.append_cut.Goals as goal

pub returns : goal.returns
returns c =
    appended_then c.requires c.append_phrase-next.ensures c.append_number.ensures
