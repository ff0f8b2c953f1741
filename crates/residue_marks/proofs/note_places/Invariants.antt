-- `note_places` writes each place behind those noted, and counts it where it is marked: the invariant is `Noted` up to the place reached.
use Rattle.residue_marks.specs.Marks.{Noted}
use Rattle.residue_marks.proofs.note_places.Given as goal

abbrev pub invariant-loop-i : goal.invariant-loop-i
invariant-loop-i l = Noted l.marks l.from l.i l.count l.initial.noted l.n l.noted
