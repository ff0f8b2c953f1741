-- `extent_of` goes through the list from its end: the invariant is `Extended` from the plunge reached on.
use Rattle.drawing_box.specs.Boxed.{Extended}
use Rattle.drawing_box.proofs.extent_of.Given as goal

abbrev pub invariant-loop-i : goal.invariant-loop-i
invariant-loop-i l = Extended l.head l.file l.i l.count l.extent
