-- `append_tidy` puts one of two lines.
use Rattle.job_summary.proofs.append_tidy.Goals as goal

pub returns-then-tidy : goal.returns-then-tidy
returns-then-tidy c =
    simp c.if-tidy.true c.append.ensures

pub returns : goal.returns
returns c =
    simp c.if-tidy.false c.append-2.ensures
