-- `append_list` puts the lines of the list, one behind the other.
use Rattle.job_summary.proofs.Lines.{list-appended}
use Rattle.job_summary.proofs.append_list.Goals as goal

pub returns : goal.returns
returns c =
    list-appended c.requires.1 c.args.file.now c.args.job _ _ c.requires.0
    c.count_changes-changes.ensures c.sum_travel-travel.ensures
    c.append_plate-a.ensures c.append_phrase-b.ensures
    c.append_reaches-c.ensures c.append_phrase-d.ensures
    c.append_phrase.ensures
