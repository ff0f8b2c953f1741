-- `digit_count` cuts a digit off until one is left.
use Rattle.numerals.proofs.Sizes.{CutOff}
use Rattle.numerals.proofs.digit_count.Given as goal

abbrev pub invariant-loop-rest : goal.invariant-loop-rest
invariant-loop-rest l = CutOff l.n l.rest l.count

abbrev pub decreases-loop-rest : goal.decreases-loop-rest
decreases-loop-rest l = l.rest
