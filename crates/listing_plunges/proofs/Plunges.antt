-- How long a listing is.
use mathlib.Core.List.{List}
use Prim.Native.Nat.{ℕ, ◌<◌}
use native.Mathlib.Omega.{arith}
use native.Mathlib.Nat.{mul-le-mul}
use lib.ListN.{length}
use Rattle.geometry.specs.declared.Head.{Head}
use Rattle.theory.specs.Listing.{listing}
use Rattle.theory.proofs.Listing.{listing-length}
use Rattle.refusal.specs.Refusals.{largest_erosion}
use Rattle.refusal.specs.Sides.{Sides}

-- a listing can be counted in the four bytes of an end field
pub listing-few : (p : Head) (m : List ℕ) → Sides p → length (listing p largest_erosion m) < 4294967296
listing-few p m s = omega (arith, listing-length p largest_erosion m, mul-le-mul s.low s.narrow)
