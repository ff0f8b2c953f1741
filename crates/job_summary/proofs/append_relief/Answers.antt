-- `append_relief` puts two lines.
use Rattle.phrases.proofs.Appends.{appended_then}
use Rattle.job_summary.proofs.append_relief.Goals as goal

pub returns : goal.returns
returns c =
    appended_then c.requires c.append_phrase-a.ensures c.append_tidy.ensures
