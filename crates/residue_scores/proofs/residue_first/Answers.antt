use native.Mathlib.Omega.{arith}
use Rattle.residue_scores.proofs.Residues.{scored-none, scored-more}
use Rattle.residue_scores.proofs.residue_first.Goals as goal

pub loop-row-init : goal.loop-row-init
loop-row-init c = scored-none _ _ _ _ _

pub residue_row-requires : goal.residue_row-requires
residue_row-requires c = (
  omega arith,
  record { before = c.requires.before; after = c.requires.after; room = omega (arith, c.requires.room, c.loop-row.invariant.same) },
)

pub loop-row-preserved : goal.loop-row-preserved
loop-row-preserved c = scored-more _ _ _ _ _ _ _ _ c.loop-row.invariant c.residue_row.ensures
