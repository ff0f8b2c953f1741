-- `append_reach` puts four phrases, one behind the other.
use Rattle.job_summary.proofs.Lines.{reach-appended}
use Rattle.job_summary.proofs.append_reach.Goals as goal

pub returns : goal.returns
returns c =
    let given = c.args in
    reach-appended c.requires given.reach given.count given.least given.greatest
    c.append_phrase-a.ensures c.append_phrase-b.ensures
    c.append_phrase-c.ensures c.append_phrase.ensures
