-- `join_row` fills with the joined numbers: the invariant is `Filled` up to the place reached, which still has its old number.
use Rattle.buffers.specs.Fill.{Filled}
use Rattle.row_arrays.specs.Rows.{margin, joined_row}
use Rattle.row_arrays.proofs.join_row.Given as goal

abbrev pub invariant-loop-n : goal.invariant-loop-n
invariant-loop-n l = Filled (joined_row l.kind l.beside l.initial.row) margin l.n l.initial.row l.row
