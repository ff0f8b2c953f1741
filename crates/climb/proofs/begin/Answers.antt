-- `begin` settles on the part of the relief that is not bare, if there is one: `begins` and `begins-bare` say that this is a climb of the relief.
use Rattle.climb.proofs.Beginnings.{begins, begins-bare}
use Rattle.climb.proofs.begin.Goals as goal

pub returns-then-is_bare : goal.returns-then-is_bare
returns-then-is_bare c =
    begins-bare _ _ _ _ _ _ _ c.requires.0 c.copy_region-part.ensures
    (c.is_bare.ensures.0 c.if-is_bare.true) c.no_climb.ensures

pub returns : goal.returns
returns c =
    begins _ _ _ _ _ _ _ _ c.requires.0 c.copy_region-part.ensures c.settle.ensures
