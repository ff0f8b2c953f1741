-- `tally` enters each plunge under its reach.
use Rattle.reading.specs.Reading.{plunges_up_to}
use Rattle.job_figures.specs.Passes.{Tallied}
use Rattle.job_figures.proofs.tally.Given as goal

abbrev pub invariant-loop-i : goal.invariant-loop-i
invariant-loop-i l = Tallied (plunges_up_to l.i l.file) l.counts l.least l.greatest
