-- Writing by the size of a plate: what each size asks.
use mathlib.Core.Path.{◌≡◌}
use native.Mathlib.Omega.{arith}
use Rattle.geometry.specs.declared.Head.{Head}
use Rattle.geometry.specs.declared.Size.TheVariants.{Small}
use Rattle.geometry.specs.Sizes.{size_of}
use Rattle.geometry.proofs.Sizes.{small-sides}
use Rattle.fields.specs.Fits.{HeadFits}

-- the sides of a small plate are bytes
pub small-head : (p : Head) → size_of p ≡ Small → HeadFits Small p
small-head p e = let h = small-sides p e in record { width = omega (arith, h.0); height = omega (arith, h.1) }
