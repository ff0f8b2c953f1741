-- `place_range` places one plunge after another: the invariant is `Raised` up to the plunge reached.
use Rattle.drawing_box.specs.Boxed.{part_of, plunge_in}
use Rattle.drawing.specs.Files.{Raised}
use Rattle.drawing.proofs.place_range.Given as goal

abbrev pub invariant-loop-i : goal.invariant-loop-i
invariant-loop-i l = Raised (part_of l.d) (plunge_in l.d l.file) l.reach l.from l.i l.initial.map l.map
