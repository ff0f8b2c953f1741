-- In a list whose reaches rise, as in every tidied file, there are as many changes as different reaches.
use mathlib.Core.Path.{◌≡◌, refl, sym, ap, subst}
use mathlib.Core.Logic.{inl, inr, ◌≢◌}
use mathlib.Core.Bool.{Bool, true, false, cond}
use mathlib.Core.List.Memᴰ
use mathlib.Core.List.{List, [], ◌∷◌, Memᴰ}
use Prim.Native.Nat.{ℕ, zero, suc, ◌+◌, ◌≤◌, ◌<◌}
use native.Mathlib.Omega.{arith}
use borrow.Author.Tests.{ne_eqb, eqb-true, eqb-false}
use lib.Dec.{eqb}
use Rattle.geometry.specs.declared.Plunge.{Plunge}
use Rattle.geometry.specs.Lists.{any}
use Rattle.theory.specs.Listing.{Rising, Before}
use Rattle.motion.specs.Changes.{changes_after, changes_in, reaches_below}

abbrev has : ℕ → List Plunge → Bool
has r qs = any (λ q. eqb q.reach.0 r) qs

-- no plunge of a list has a reach below a bound
abbrev From : ℕ → List Plunge → Type 0
From r qs = (q : Plunge) → Memᴰ q qs → r ≤ q.reach.0

has-not : (qs : List Plunge) (r s : ℕ) → From s qs → r < s → has r qs ≡ false
has-not [] r s f l = refl
has-not (q ∷ qs) r s f l = rw (ne_eqb q.reach.0 r (λ e. omega (arith, e, f q (Memᴰ.head refl)))) (has-not qs r s (λ o m. f o (Memᴰ.tail m)) l)

-- reaches below a bound that no plunge goes under: none
below_none : (limit : ℕ) (qs : List Plunge) (s : ℕ) → From s qs → limit ≤ s → reaches_below limit qs ≡ 0
below_none zero qs s f l = refl
below_none (suc r) qs s f l = rw (has-not qs r s f (omega arith)) (omega (arith, below_none r qs s f (omega arith)))

-- with one plunge before a list whose reaches start at its own: one reach more, unless the list has it
with_first : (limit : ℕ) (q : Plunge) (qs : List Plunge) → From q.reach.0 qs → q.reach.0 < limit
    → reaches_below limit (q ∷ qs) ≡ cond (has q.reach.0 qs) 0 1 + reaches_below limit qs
with_first zero q qs f l = absurd (omega arith)
with_first (suc r) q qs f l = go (λ h. with_first r q qs f h) (eqb q.reach.0 r) refl
  where
    go : (q.reach.0 < r → reaches_below r (q ∷ qs) ≡ cond (has q.reach.0 qs) 0 1 + reaches_below r qs) → (b : Bool) → eqb q.reach.0 r ≡ b
        → reaches_below r (q ∷ qs) + cond (cond b true (has r qs)) 1 0 ≡ cond (has q.reach.0 qs) 0 1 + (reaches_below r qs + cond (has r qs) 1 0)
    go more true e =
        let n : q.reach.0 ≡ r = eqb-true _ _ e in
        let x : reaches_below r (q ∷ qs) ≡ 0 = below_none r (q ∷ qs) r (least n) (omega arith) in
        let y : reaches_below r qs ≡ 0 = below_none r qs r (λ o m. omega (arith, n, f o m)) (omega arith) in
        subst (λ (k : ℕ). reaches_below r (q ∷ qs) + 1 ≡ cond (has k qs) 0 1 + (reaches_below r qs + cond (has r qs) 1 0)) (sym n) (bits (has r qs) x y)
      where
        least : q.reach.0 ≡ r → From r (q ∷ qs)
        least n o (Memᴰ.head i) = omega (arith, n, ap (λ (t : Plunge). t.reach.0) i)
        least n o (Memᴰ.tail i) = omega (arith, n, f o i)

        bits : (b : Bool) → reaches_below r (q ∷ qs) ≡ 0 → reaches_below r qs ≡ 0 → reaches_below r (q ∷ qs) + 1 ≡ cond b 0 1 + (reaches_below r qs + cond b 1 0)
        bits true x y = omega arith
        bits false x y = omega arith
    go more false e = let n : q.reach.0 ≢ r = eqb-false q.reach.0 r e in omega (arith, more (omega (arith, n)))

-- reaches never fall along a rising list
rising-from : (q : Plunge) (qs : List Plunge) → Rising (q ∷ qs) → From q.reach.0 qs
rising-from q qs h o m = go (h.0 o m)
  where
    go : Before q o → q.reach.0 ≤ o.reach.0
    go (inl a) = omega arith
    go (inr a) = omega (arith, a.0)

after : (limit : ℕ) (q : Plunge) (qs : List Plunge) → Rising (q ∷ qs) → ((o : Plunge) → Memᴰ o (q ∷ qs) → o.reach.0 < limit)
    → 1 + changes_after q.reach.0 qs ≡ reaches_below limit (q ∷ qs)
after limit q [] h l = omega (
  arith,
  with_first limit q [] (λ o m. absurd (Memᴰ.not-nil m)) (l q (Memᴰ.head refl)),
  below_none limit [] limit (λ o m. absurd (Memᴰ.not-nil m)) (omega arith),
)
after limit q (o ∷ qs) h l = go (after limit o qs h.1 (λ n m. l n (Memᴰ.tail m))) (eqb o.reach.0 q.reach.0) refl
    (with_first limit q (o ∷ qs) (rising-from q (o ∷ qs) h) (l q (Memᴰ.head refl)))
  where
    low : q.reach.0 ≤ o.reach.0
    low = rising-from q (o ∷ qs) h o (Memᴰ.head refl)

    go : 1 + changes_after o.reach.0 qs ≡ reaches_below limit (o ∷ qs) → (b : Bool) → eqb o.reach.0 q.reach.0 ≡ b
        → reaches_below limit (q ∷ o ∷ qs) ≡ cond (cond b true (has q.reach.0 qs)) 0 1 + reaches_below limit (o ∷ qs)
        → 1 + (cond b 0 1 + changes_after o.reach.0 qs) ≡ reaches_below limit (q ∷ o ∷ qs)
    go more true e w = omega (arith, more, w)
    go more false e w =
        let z : has q.reach.0 qs ≡ false =
        has-not qs q.reach.0 o.reach.0 (rising-from o qs h.1) (omega (arith, low, eqb-false o.reach.0 q.reach.0 e)) in
        omega (arith, more, rw z at w)

-- "Change comes for i = 0 or where the reach differs": in a rising list as many as there are different reaches
pub changes-are-reaches : (limit : ℕ) (qs : List Plunge) → Rising qs → ((q : Plunge) → Memᴰ q qs → q.reach.0 < limit)
    → changes_in qs ≡ reaches_below limit qs
changes-are-reaches limit [] h l = sym (below_none limit [] limit (λ o m. absurd (Memᴰ.not-nil m)) (omega arith))
changes-are-reaches limit (q ∷ qs) h l = after limit q qs h l
