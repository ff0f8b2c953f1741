-- `score_fill` joins one residue at each step: the invariant is the series', and the score over the residues so far.
use Rattle.erosion_series.specs.Pairs.{ScoreUpTo}
use Rattle.erosion_series.proofs.Pairs.{Eroding}
use Rattle.erosion_series.proofs.score_fill.Given as goal

abbrev pub invariant-loop-k : goal.invariant-loop-k
invariant-loop-k l = Eroding l.head l.relief l.k l.initial.a l.initial.b l.a l.b × ScoreUpTo l.head l.score l.relief l.k l.initial.out l.out
