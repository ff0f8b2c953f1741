-- `residue_first` goes row by row: the invariant is `Scored` up to the row reached.
use Rattle.residue_scores.specs.Residues.{Scored}
use Rattle.residue_scores.proofs.residue_first.Given as goal

abbrev pub invariant-loop-row : goal.invariant-loop-row
invariant-loop-row l = Scored l.head l.score l.prev l.cur 0 l.row l.initial.out l.out
