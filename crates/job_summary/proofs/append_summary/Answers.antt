-- `append_summary` puts the lines of the list, then those of its relief.
use Rattle.job_summary.proofs.Lines.{summary-appended}
use Rattle.job_summary.proofs.append_summary.Goals as goal

pub returns-clause-text : goal.returns-clause-text
returns-clause-text c =
    summary-appended c.requires.1 c.args.file.now _ _ c.volume_of-volume.ensures.0
    c.is_tidy-tidy.ensures.0 c.append_list-end.ensures c.append_relief.ensures
