use native.Mathlib.Omega.{arith}
use Rattle.erosion_step.proofs.Steps.{sides-more}
use Rattle.erosion_step.proofs.zero_columns.Goals as goal

pub loop-y-preserved : goal.loop-y-preserved
loop-y-preserved c = sides-more _ _ _ _ _ c.requires.0 (omega arith) c.requires.1 c.loop-y.invariant
