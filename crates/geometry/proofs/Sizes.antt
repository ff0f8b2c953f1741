-- Laws of the size of a plate: small where both sides are, large where one is not.
use mathlib.Core.Path.{◌≡◌, refl}
use mathlib.Core.Bool.{Bool, true, false, cond}
use Prim.Native.Nat.{ℕ, ◌≤◌, ◌<◌}
use native.Mathlib.Omega.{arith}
use borrow.Author.Tests.{le-leb, lt-leb, leb-true}
use lib.Dec.{leb}
use Rattle.geometry.specs.declared.Head.{Head}
use Rattle.geometry.specs.declared.Size.TheVariants.{Small, Large}
use Rattle.geometry.specs.Sizes.{small_side, size_of}

module _ (p : Head) where
  pub small_size : p.width ≤ small_side → p.height ≤ small_side → size_of p ≡ Small
  unfolding size_of
  small_size a b = rw (le-leb _ _ a, le-leb _ _ b)

  pub tall-size : small_side < p.height → size_of p ≡ Large
  unfolding size_of
  tall-size h = rw (lt-leb _ _ h) (go (leb p.width small_side))
    where
      go : (b : Bool) → cond b Large Large ≡ Large
      go true = refl
      go false = refl

  pub wide-size : small_side < p.width → size_of p ≡ Large
  unfolding size_of
  wide-size h = rw (lt-leb _ _ h)

  -- the sides of a small plate
  pub small-sides : size_of p ≡ Small → (p.width ≤ small_side) × (p.height ≤ small_side)
  unfolding size_of
  small-sides = go (leb p.width small_side) (leb p.height small_side) refl refl
    where
      go : (a b : Bool) → leb p.width small_side ≡ a → leb p.height small_side ≡ b → cond a (cond b Small Large) Large ≡ Small
          → (p.width ≤ small_side) × (p.height ≤ small_side)
      go true true e g h = (leb-true _ _ e, leb-true _ _ g)
      go true false e g h = let z : ◌≡◌ {A = ℕ} 0 1 = cc in absurd (omega arith)
      go false b e g h = let z : ◌≡◌ {A = ℕ} 0 1 = cc in absurd (omega arith)
