-- What the literal definitions give for one M block, by computation alone, so that a changed definition meets a wrong value; the crate `blocks` computes them all.
use mathlib.Core.Path.{◌≡◌, refl}
use Rattle.geometry.specs.Plane.{ball}
use Rattle.geometry.specs.Plate.{cells, framed}
use Rattle.theory.specs.Erosion.{erosion, residue, largest_residue, residue_sum}
use Rattle.theory.specs.Levels.{clearance, axis, reconstructed}
use Rattle.theory.specs.Listing.{listing, drawn}
use Rattle.theory.specs.Blocks.{answers, flat4}

pub corners-computed : answers 2 flat4 ≡ flat4.asked
unfolding listing drawn clearance axis reconstructed largest_residue residue_sum residue erosion ball cells framed
corners-computed = refl
