-- `count_changes` walks from the first plunge to the last.
use Rattle.job_figures.proofs.Walk.{Changed}
use Rattle.job_figures.proofs.count_changes.Given as goal

abbrev pub invariant-loop-i : goal.invariant-loop-i
invariant-loop-i l = Changed l.file l.before l.changes l.i
