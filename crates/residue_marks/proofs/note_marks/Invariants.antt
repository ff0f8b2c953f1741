-- `note_marks` goes from block to block, then over the rest: the invariant is `Noted` up to the place reached.
use Prim.Native.Nat.{◌*◌}
use Rattle.residue_marks.specs.Marks.{block, Noted}
use Rattle.residue_marks.proofs.note_marks.Given as goal

abbrev pub invariant-loop-i : goal.invariant-loop-i
invariant-loop-i l = Noted l.marks 0 (block * l.i) 0 l.initial.noted l.count l.noted
