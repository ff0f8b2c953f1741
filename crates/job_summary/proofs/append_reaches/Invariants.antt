-- `append_reaches` puts the line of each reach that has plunges, rising.
use Rattle.job_summary.proofs.Lines.{Lined}
use Rattle.reading.specs.Reading.{plunges_in}
use Rattle.job_summary.proofs.append_reaches.Given as goal

abbrev pub invariant-loop-reach : goal.invariant-loop-reach
invariant-loop-reach l = Lined l.initial.page l.at (plunges_in l.file) l.page l.end l.reach
