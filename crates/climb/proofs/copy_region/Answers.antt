-- `copy_region` copies the box outside of which the region is bare: `parts` says that this is its part.
use mathlib.Core.Path.{sym, subst}
use Rattle.climb.specs.Climbs.{RegionPart}
use Rattle.climb.proofs.Beginnings.{parts}
use Rattle.climb.proofs.copy_region.Goals as goal

pub returns : goal.returns
returns c =
    let found = c.bounds_of-found.ensures in
    subst (RegionPart _ _ _ _) (sym c.part_in.ensures)
    (parts _ _ _ _ _ c.requires.0 found.0 found.1 c.copy_box.ensures)
