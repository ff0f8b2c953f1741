-- `note_block` passes over a block without a mark.
use native.Mathlib.Omega.{arith}
use Rattle.residue_marks.proofs.Marking.{noted-skip}
use Rattle.residue_marks.proofs.note_block.Goals as goal

pub returns-then-block_marks-eq0 : goal.returns-then-block_marks-eq0
returns-then-block_marks-eq0 c =
    noted-skip _ _ _ _ _ (omega arith) c.requires.few (c.block_marks.ensures c.if-block_marks-eq0.true)
