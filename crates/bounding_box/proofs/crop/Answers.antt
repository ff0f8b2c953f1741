use Rattle.bounding_box.proofs.Boxing.{filled-moved, cropped-more}
use Rattle.bounding_box.proofs.crop.Goals as goal

pub loop-y-preserved : goal.loop-y-preserved
loop-y-preserved c =
    cropped-more _ _ _ _ _ _ c.requires c.loop-y.invariant
    (filled-moved _ _ _ _ _ c.copy_within.ensures.len c.copy_within.ensures.by_index)
