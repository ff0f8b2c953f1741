-- `count_within` goes on to the first sample above the largest value.
use Rattle.std.proofs.Common.{◌≡◌, ◌+◌, drop}
use Rattle.pgm.specs.Pgm.{count_within}
use Rattle.pgm.proofs.count_within.Given as goal

abbrev pub invariant-loop-i : goal.invariant-loop-i
invariant-loop-i l = l.i + count_within l.most (drop l.i l.samples) ≡ count_within l.most l.samples
