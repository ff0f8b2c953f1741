-- How many erosions a relief takes: the number has its property, and no other has; how large it is, and which reaches are listed.
use mathlib.Core.Path.{◌≡◌, refl, sym, ap, ◌∙◌, subst}
use mathlib.Core.Logic.{◌⊎◌, inl, inr, ◌↔◌}
use mathlib.Core.List.{List, [], ◌∷◌, map, Memᴰ}
use Prim.Native.Nat.{ℕ, suc, ◌+◌, ◌*◌, ◌/◌, ◌-◌, ◌≤◌, ◌<◌, min}
use native.Mathlib.Omega.{arith}
use native.Mathlib.Decide.{dec_le}
use borrow.Author.Tests.{eq-eqb, eqb-true}
use Rattle.geometry.specs.declared.Head.{Head}
use Rattle.geometry.specs.declared.Plunge.{Plunge}
use Rattle.geometry.specs.Lists.{Lowest, gather, select, lowest, highest}
use Rattle.geometry.specs.Plane.{Cell}
use Rattle.geometry.specs.Plate.{On, at, cells, tabulated}
use Rattle.geometry.specs.Plunges.{centre}
use Rattle.theory.specs.Erosion.{erosion, highest_near}
use Rattle.theory.specs.Climbed.{Bare, bare, IsErosionCount, erosion_count}
use Rattle.theory.specs.Listing.{listing}
use Rattle.theory.proofs.Lists.{min-choice, fold-extreme, lowest-unique, highest-bound, highest-met, select_in, select-out, each_in}
use Rattle.theory.proofs.Plate.{on-or-off, cells_in, cells_out}
use Rattle.theory.proofs.Erosion.{highest_near-met, erosion-zero, erosion-off, erosion-ended, erosion-top}
use Rattle.theory.proofs.Listing.{Listed, listed_plunge, listed-out, listed_in}

module _ (p : Head) (m : List ℕ) where
  -- the highest number of an erosion
  abbrev top : ℕ → ℕ
  top k = highest 0 (tabulated p (erosion p m k))

  bare-sound : (k : ℕ) → top k ≡ 0 → Bare p m k
  bare-sound k z c = go (on-or-off p c)
    where
      go : On p c ⊎ ((n : List ℕ) → at p n c ≡ 0) → erosion p m k c ≡ 0
      go (inl o) = omega (arith, highest-bound (erosion p m k) (cells p) (cells_in p o), z)
      go (inr z) = erosion-off p m k c z

  -- an erosion with something above 0 has it at some cell
  top-met : (k : ℕ) → 1 ≤ top k → (c : Cell) × On p c × (1 ≤ erosion p m k c)
  top-met k h = let t = highest-met (erosion p m k) (cells p) h in (t.0, cells_out p t.1, omega (arith, t.2))

  bare-whole : (k : ℕ) → Bare p m k → top k ≡ 0
  bare-whole k z = go (dec_le (top k) 0)
    where
      go : Dec (top k ≤ 0) → top k ≡ 0
      go (yes h) = omega arith
      go (no h) = let t = top-met k (omega arith) in absurd (omega (arith, z t.0, t.2))

  pub not-bare : (k : ℕ) → (Bare p m k → ⊥) → (c : Cell) × On p c × (1 ≤ erosion p m k c)
  not-bare k d = go (dec_le 1 (top k))
    where
      go : Dec (1 ≤ top k) → (c : Cell) × On p c × (1 ≤ erosion p m k c)
      go (yes h) = top-met k h
      go (no h) = absurd (d (bare-sound k (omega arith)))

  -- ---- the number

  abbrev numbers : List ℕ
  numbers = gather p.height 0 (λ k. k ∷ [])

  count-extreme : (bs : List ℕ) → (lowest p.height bs ≤ p.height) × ((k : ℕ) → Memᴰ k bs → lowest p.height bs ≤ k)
      × ((lowest p.height bs ≡ p.height) ⊎ Memᴰ (lowest p.height bs) bs)
  count-extreme bs = (e.bound p.height (Memᴰ.head refl), (λ k i. e.bound k (Memᴰ.tail i)), go e.met.1)
    where
      same : (l : List ℕ) → map (λ (k : ℕ). k) l ≡ l
      same [] = refl
      same (k ∷ l) = ap (λ (o : List ℕ). k ∷ o) (same l)

      e : Lowest (λ k. Memᴰ k (p.height ∷ bs)) (λ k. k) (lowest p.height bs)
      e = subst (λ (l : List ℕ). Lowest (λ k. Memᴰ k (p.height ∷ bs)) (λ k. k) (lowest p.height l)) (same bs)
          (fold-extreme min-choice (λ (k : ℕ). k) p.height bs)

      go : Memᴰ e.met.0 (p.height ∷ bs) → (lowest p.height bs ≡ p.height) ⊎ Memᴰ (lowest p.height bs) bs
      go (Memᴰ.head h) = inl (sym e.met.2 ∙ h)
      go (Memᴰ.tail i) = inr (subst (λ (k : ℕ). Memᴰ k bs) e.met.2 i)

  -- it is the smallest
  pub count-is : IsErosionCount p m (erosion_count p m)
  unfolding erosion_count
  count-is = record { bound = λ k z. under k z (dec_le p.height k); met = (erosion_count p m, bare-at e.2, refl) }
    where
      e : (erosion_count p m ≤ p.height) × ((k : ℕ) → Memᴰ k (select (bare p m) numbers) → erosion_count p m ≤ k)
          × ((erosion_count p m ≡ p.height) ⊎ Memᴰ (erosion_count p m) (select (bare p m) numbers))
      e = count-extreme (select (bare p m) numbers)

      under : (k : ℕ) → Bare p m k → Dec (p.height ≤ k) → erosion_count p m ≤ k
      under k z (yes h) = omega (arith, e.0)
      under k z (no h) =
          e.1 k (select_in (bare p m) numbers (each_in (λ k. k) p.height 0 k (omega arith) (omega arith)) (eq-eqb (top k) 0 (bare-whole k z)))

      bare-at : (erosion_count p m ≡ p.height) ⊎ Memᴰ (erosion_count p m) (select (bare p m) numbers) → Bare p m (erosion_count p m)
      bare-at (inl h) = subst (Bare p m) (sym h) (erosion-top p m p.height (omega arith))
      bare-at (inr i) = bare-sound (erosion_count p m) (eqb-true (top (erosion_count p m)) 0 (select-out (bare p m) numbers i).1)

  -- and no other number is
  pub count-unique : (n : ℕ) → IsErosionCount p m n → n ≡ erosion_count p m
  count-unique n h = lowest-unique (Bare p m) (λ k. k) n (erosion_count p m) h count-is

  -- the first that is 0 everywhere: the one before is not
  pub count-first : (n : ℕ) → Bare p m n → (1 ≤ n → Bare p m (n - 1) → ⊥) → n ≡ erosion_count p m
  count-first n z d = count-unique n (record { bound = λ k y. under k y (dec_le n k); met = (n, z, refl) })
    where
      under : (k : ℕ) → Bare p m k → Dec (n ≤ k) → n ≤ k
      under k y (yes h) = h
      under k y (no h) = absurd (d (omega arith) (erosion-ended p m k (n - 1) (omega arith) y))

  count-bare : Bare p m (erosion_count p m)
  count-bare = subst (Bare p m) count-is.met.2 count-is.met.1

  -- ---- how large it is

  -- "it is at most the smaller side plus 1, halved and rounded down"
  pub count-bound : erosion_count p m ≤ (min p.width p.height + 1) / 2
  count-bound = count-is.bound ((min p.width p.height + 1) / 2) (erosion-top p m _ (omega arith))

  -- "A relief of all 0 reports 0", and no other does
  pub count_none : (erosion_count p m ≡ 0) ↔ ((c : Cell) → at p m c ≡ 0)
  count_none = (
    (λ e c. sym (erosion-zero p m c) ∙ subst (Bare p m) e count-bare c),
    λ z. omega (arith, count-is.bound 0 (λ c. erosion-zero p m c ∙ z c)),
  )

  -- ---- which reaches are listed

  -- none as large
  pub count_under : (limit : ℕ) (q : Plunge) → Memᴰ q (listing p limit m) → q.reach.0 < erosion_count p m
  count_under limit q i = go (dec_le (erosion_count p m) q.reach.0)
    where
      l : Listed p limit m q
      l = listed-out p limit m i

      go : Dec (erosion_count p m ≤ q.reach.0) → q.reach.0 < erosion_count p m
      go (no h) = omega arith
      go (yes h) = absurd (omega (arith, l.over, erosion-ended p m (erosion_count p m) q.reach.0 h count-bare (centre q)))

  -- and, if there are any, the one before
  pub count-met : (limit : ℕ) → min p.width p.height ≤ 2 * limit → 1 ≤ erosion_count p m
      → (q : Plunge) × Memᴰ q (listing p limit m) × (q.reach.0 + 1 ≡ erosion_count p m)
  count-met limit sides some = (q, listed_in p limit m listed, omega arith)
    where
      r : ℕ
      r = erosion_count p m - 1

      deep : (c : Cell) × On p c × (1 ≤ erosion p m r c)
      deep = not-bare r (λ z. absurd (omega (arith, count-is.bound r z)))

      q : Plunge
      q = listed_plunge p m r deep.1.column deep.1.row

      near : highest_near p.kind (erosion p m (suc r)) deep.0 ≡ 0
      near =
          let t = highest_near-met p.kind (erosion p m (suc r)) deep.0 in
          let e : erosion_count p m ≡ suc r = omega arith in
          sym t.2 ∙ subst (Bare p m) e count-bare t.0

      listed : Listed p limit m q
      listed = record {
        left = deep.1.left;
        upper = deep.1.upper;
        small = omega (arith, count-bound);
        whole = refl;
        over = subst (λ d. highest_near p.kind (erosion p m (suc r)) d < erosion p m r d) deep.1.is (omega (arith, near, deep.2));
      }
