-- `append_plate` puts three phrases, one behind the other.
use Rattle.job_summary.proofs.Lines.{plate-appended}
use Rattle.job_summary.proofs.append_plate.Goals as goal

pub returns : goal.returns
returns c =
    plate-appended c.requires c.args.head _ c.byte.ensures
    c.append_phrase-a.ensures c.append_phrase-b.ensures
    c.append_phrase.ensures
