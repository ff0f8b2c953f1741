-- `erode_to` copies the relief and steps on: the invariant is `Eroding` at the number of steps made.
use Rattle.erosion_series.proofs.Pairs.{Eroding}
use Rattle.erosion_series.proofs.erode_to.Given as goal

abbrev pub invariant-loop-k : goal.invariant-loop-k
invariant-loop-k l = Eroding l.head l.relief l.k l.initial.a l.initial.b l.a l.b
