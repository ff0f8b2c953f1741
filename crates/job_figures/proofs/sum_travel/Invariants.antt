-- `sum_travel` walks from the first plunge to the last; 2^32 ways fit 64 bits.
use Rattle.job_figures.proofs.Walk.{Travelled}
use Rattle.job_figures.proofs.sum_travel.Given as goal

abbrev pub invariant-loop-i : goal.invariant-loop-i
invariant-loop-i l = Travelled l.file l.before l.travel l.i
