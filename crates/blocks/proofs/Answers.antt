-- What the literal definitions give for the M blocks with residues 1 and 2, by computation alone: no law is used.
use mathlib.Core.Path.{◌≡◌, refl}
use mathlib.Core.List.{map}
use Rattle.geometry.specs.Plane.{ball}
use Rattle.geometry.specs.Plate.{cells, framed}
use Rattle.theory.specs.Erosion.{erosion, residue, largest_residue, residue_sum}
use Rattle.theory.specs.Levels.{clearance, axis, reconstructed}
use Rattle.theory.specs.Listing.{listing, drawn}
use Rattle.theory.specs.Blocks.{answers, blocks}

pub computed : map (answers 2) blocks ≡ map (λ b. b.asked) blocks
unfolding listing drawn clearance axis reconstructed largest_residue residue_sum residue erosion ball cells framed
computed = refl
