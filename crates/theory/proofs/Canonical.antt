-- The canonical form of a list: lists that draw the same relief have the same one, and only those; it draws the same relief, and is its own canonical form.
use mathlib.Core.Path.{◌≡◌, refl, sym, ap, ap₂, ◌∙◌, subst, fun_ext}
use mathlib.Core.Logic.{◌↔◌}
use mathlib.Core.Bool.{cond}
use mathlib.Core.List.{List, [], ◌∷◌, map}
use Prim.Native.Nat.{ℕ, zero, suc, ◌*◌, ◌-◌, ◌≤◌, min}
use lib.Dec.{ltb}
use lib.ListN.{take}
use Rattle.geometry.specs.declared.Head.{Head}
use Rattle.geometry.specs.declared.Plunge.{Plunge}
use Rattle.geometry.specs.Lists.{Lowest, gather, lowest}
use Rattle.geometry.specs.Plane.{Cell, cell, ball}
use Rattle.geometry.specs.Plate.{at, area}
use Rattle.theory.specs.Erosion.{erosion, highest_near, residue}
use Rattle.theory.specs.Climbed.{erosion_count}
use Rattle.theory.specs.Listing.{listing, drawing, canonical}
use Rattle.theory.proofs.Plate.{at-prefix}
use Rattle.theory.proofs.Climbed.{count-is, count-unique}
use Rattle.theory.proofs.Drawing.{at-drawing-listing}

module _ (p : Head) where
  -- erosions, their count, residues and listings depend on the depths at the cells alone
  pub erosion-same : (m n : List ℕ) → at p m ≡ at p n → erosion p m ≡ erosion p n
  unfolding erosion
  erosion-same m n e = ap {B = ℕ → Cell → ℕ} (λ (f : Cell → ℕ) k c. lowest (f c) (map f (ball p.kind c k))) e

  pub count_same : (m n : List ℕ) → at p m ≡ at p n → erosion_count p m ≡ erosion_count p n
  count_same m n e =
      count-unique p n (erosion_count p m)
      (subst (λ (f : ℕ → Cell → ℕ). Lowest (λ k. (c : Cell) → f k c ≡ 0) (λ k. k) (erosion_count p m)) (erosion-same m n e) (count-is p m))

  pub residue-same : (m n : List ℕ) → at p m ≡ at p n → (k : ℕ) → residue p m k ≡ residue p n k
  unfolding residue
  residue-same m n e zero = refl
  residue-same m n e (suc k) =
      ap {B = Cell → ℕ} (λ (f : ℕ → Cell → ℕ) c. f k c - highest_near p.kind (f (suc k)) c) (erosion-same m n e)

  pub listing-same : (limit : ℕ) (m n : List ℕ) → at p m ≡ at p n → listing p limit m ≡ listing p limit n
  unfolding listing
  listing-same limit m n e = ap₂ by-numbers (erosion-same m n e) (fun_ext (residue-same m n e))
    where
      by-numbers : (ℕ → Cell → ℕ) → (ℕ → Cell → ℕ) → List Plunge
      by-numbers f g =
          gather limit 0 (λ r. gather p.height 0 (λ y. gather p.width 0 (λ x.
          cond (ltb 0 (g (suc r) (cell x y))) (record { column = x; row = y; reach = record { 0 = r }; depth = f r (cell x y) } ∷ []) [])))

  -- surplus bytes of a relief's buffer do not change its listing
  pub listing-prefix : (limit : ℕ) (m n : List ℕ) → take (area p) m ≡ take (area p) n → listing p limit m ≡ listing p limit n
  listing-prefix limit m n e = listing-same limit m n (at-prefix p m n e)

module _ (p : Head) (limit : ℕ) (sides : min p.width p.height ≤ 2 * limit) where
  -- reliefs are the same, at every cell, exactly when their listings are
  pub listing-iff : (m n : List ℕ) → (listing p limit m ≡ listing p limit n) ↔ ((c : Cell) → at p m c ≡ at p n c)
  listing-iff m n = (
    (λ e c. sym (at-drawing-listing p limit m sides c) ∙ ap (λ l. at p (drawing p l) c) e ∙ at-drawing-listing p limit n sides c),
    λ h. listing-same p limit m n (fun_ext h),
  )

  -- lists that draw the same relief have the same canonical form, and no others have
  pub canonical-iff : (qs os : List Plunge) → (canonical p limit qs ≡ canonical p limit os) ↔ ((c : Cell) → at p (drawing p qs) c ≡ at p (drawing p os) c)
  canonical-iff qs os = listing-iff (drawing p qs) (drawing p os)

  -- the canonical form draws the same relief
  pub canonical-draws : (qs : List Plunge) (c : Cell) → at p (drawing p (canonical p limit qs)) c ≡ at p (drawing p qs) c
  canonical-draws qs c = at-drawing-listing p limit (drawing p qs) sides c

  -- and is its own canonical form
  pub canonical-twice : (qs : List Plunge) → canonical p limit (canonical p limit qs) ≡ canonical p limit qs
  canonical-twice qs = (canonical-iff (canonical p limit qs) qs).1 (canonical-draws qs)
