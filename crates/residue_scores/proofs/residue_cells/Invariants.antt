-- `residue_cells` fills with joined residues, each cell by its own window: the invariant is `Filled` up to the column reached.
use Prim.Native.Nat.{◌+◌, ◌*◌}
use Rattle.buffers.specs.Fill.{Filled}
use Rattle.residue_scores.specs.Residues.{scored_at}
use Rattle.residue_scores.proofs.residue_cells.Given as goal

abbrev pub invariant-loop-x : goal.invariant-loop-x
invariant-loop-x l =
    Filled (scored_at l.head l.score l.prev l.cur l.initial.out l.row) (l.row * l.head.width + l.from) (l.row * l.head.width + l.x) l.initial.out l.out
