use Rattle.bounding_box.proofs.Boxing.{copied_more}
use Rattle.bounding_box.proofs.copy_box.Goals as goal

pub loop-y-preserved : goal.loop-y-preserved
loop-y-preserved c = copied_more _ _ _ _ _ _ _ c.loop-y.invariant c.copy_line-in-loop-y.ensures
