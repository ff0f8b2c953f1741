-- The least and the greatest depth of a reach that some plunge has: each is the depth of one, and the other depths lie between them.
use mathlib.Core.Path.{◌≡◌, refl, ap}
use mathlib.Core.List.Memᴰ
use mathlib.Core.List.{List, [], ◌∷◌, map, Memᴰ}
use Prim.Native.Nat.{ℕ, ◌≤◌, ◌<◌, min, max}
use native.Mathlib.Omega.{arith}
use native.Mathlib.Decide.{dec_le}
use lib.ListN.{length}
use Rattle.geometry.specs.declared.Plunge.{Plunge}
use Rattle.geometry.specs.Lists.{Lowest, Highest, lowest, highest}
use Rattle.theory.proofs.Lists.{select-out, highest-bound}
use Rattle.refusal.specs.Refusals.{largest_level}
use Rattle.job_figures.specs.Figures.{has_reach, plunges_of, count_of, least_depth, greatest_depth}

module _ {A : Type 0} (f : A → ℕ) where
  lowest-bound : (most : ℕ) (l : List A) {x : A} → Memᴰ x l → lowest most (map f l) ≤ f x
  lowest-bound most [] m = absurd (Memᴰ.not-nil m)
  lowest-bound most (c ∷ cs) (Memᴰ.head e) = omega (arith, ap f e)
  lowest-bound most (c ∷ cs) (Memᴰ.tail m) = omega (arith, lowest-bound most cs m)

  lowest-met : (most : ℕ) (c : A) (cs : List A) → ((x : A) → Memᴰ x (c ∷ cs) → f x ≤ most)
      → (x : A) × Memᴰ x (c ∷ cs) × (f x ≡ lowest most (map f (c ∷ cs)))
  lowest-met most c [] h = (c, Memᴰ.head refl, omega (arith, h c (Memᴰ.head refl)))
  lowest-met most c (o ∷ cs) h = go (dec_le (f c) (lowest most (map f (o ∷ cs)))) (lowest-met most o cs (λ x m. h x (Memᴰ.tail m)))
    where
      go : Dec (f c ≤ lowest most (map f (o ∷ cs))) → (x : A) × Memᴰ x (o ∷ cs) × (f x ≡ lowest most (map f (o ∷ cs)))
          → (x : A) × Memᴰ x (c ∷ o ∷ cs) × (f x ≡ min (f c) (lowest most (map f (o ∷ cs))))
      go (yes l) t = (c, Memᴰ.head refl, omega arith)
      go (no l) t = (t.0, Memᴰ.tail t.1, omega (arith, t.2))

  highest-met : (c : A) (cs : List A) → (x : A) × Memᴰ x (c ∷ cs) × (f x ≡ highest 0 (map f (c ∷ cs)))
  highest-met c [] = (c, Memᴰ.head refl, omega arith)
  highest-met c (o ∷ cs) = go (dec_le (f c) (highest 0 (map f (o ∷ cs)))) (highest-met o cs)
    where
      go : Dec (f c ≤ highest 0 (map f (o ∷ cs))) → (x : A) × Memᴰ x (o ∷ cs) × (f x ≡ highest 0 (map f (o ∷ cs)))
          → (x : A) × Memᴰ x (c ∷ o ∷ cs) × (f x ≡ max (f c) (highest 0 (map f (o ∷ cs))))
      go (yes l) t = (t.0, Memᴰ.tail t.1, omega (arith, t.2))
      go (no l) t = (c, Memᴰ.head refl, omega arith)

-- depths are bytes, so that 255 is no less than any
pub least-is : (r : ℕ) (qs : List Plunge) → ((q : Plunge) → Memᴰ q qs → q.depth ≤ largest_level) → 0 < count_of r qs
    → Lowest (λ q. Memᴰ q (plunges_of r qs)) (λ q. q.depth) (least_depth r qs)
least-is r qs bytes some = record {
  bound = λ q m. lowest-bound (λ q. q.depth) largest_level (plunges_of r qs) m;
  met = go (plunges_of r qs) some (λ q m. bytes q (select-out (has_reach r) qs m).0);
}
  where
    go : (l : List Plunge) → 0 < length l → ((q : Plunge) → Memᴰ q l → q.depth ≤ largest_level)
        → (q : Plunge) × Memᴰ q l × (q.depth ≡ lowest largest_level (map (λ q. q.depth) l))
    go [] h b = absurd (omega arith)
    go (c ∷ cs) h b = lowest-met (λ q. q.depth) largest_level c cs b

pub greatest-is : (r : ℕ) (qs : List Plunge) → 0 < count_of r qs → Highest (λ q. Memᴰ q (plunges_of r qs)) (λ q. q.depth) (greatest_depth r qs)
greatest-is r qs some = record {
  bound = λ q m. highest-bound (λ q. q.depth) (plunges_of r qs) m;
  met = go (plunges_of r qs) some;
}
  where
    go : (l : List Plunge) → 0 < length l → (q : Plunge) × Memᴰ q l × (q.depth ≡ highest 0 (map (λ q. q.depth) l))
    go [] h = absurd (omega arith)
    go (c ∷ cs) h = highest-met (λ q. q.depth) c cs
