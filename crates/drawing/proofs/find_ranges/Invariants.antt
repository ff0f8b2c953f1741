-- `find_ranges` widens the stretch of each plunge's reach: the invariant is `Ranges` up to the plunge reached.
use Rattle.drawing.specs.Files.{reach_in, Ranges}
use Rattle.drawing.proofs.find_ranges.Given as goal

abbrev pub invariant-loop-i : goal.invariant-loop-i
invariant-loop-i l = Ranges (reach_in l.file) l.i l.first l.last l.top
