-- The loop over the digits of a fraction: what is left over, and what that says of numbers of so many digits. The digits as a function.
use mathlib.Core.Path.{◌≡◌, refl, sym, ap, ◌∙◌, subst}
use mathlib.Core.Logic.{◌⊎◌, inl, inr}
use mathlib.Core.Bool.{Bool, true, false, cond, true≢false}
use Prim.Native.Nat.{ℕ, zero, suc, ◌+◌, ◌-◌, ◌*◌, ◌/◌, ◌%◌, ◌^◌, ◌≤◌, ◌<◌, compare, Ordering}
use native.Mathlib.Nat.{add-mul, mul_assoc, mul-one, pow-suc, pow-le-pow_right, zero-lt-suc, eq-or-lt_of_le, div-add-mod', mod-lt, lt_of_not-le, lt_of_lt_of_le, mul_comm, mul-pos, mul-le-mul_right}
use native.Mathlib.Numerals.{add-one}
use native.Mathlib.Omega.{arith}
use borrow.Author.Tests.{le-leb, leb-true, leb-false, lt-ltb, ltb-true, ltb-false}
use lib.Dec.{leb, ltb, T, is_le, compare_is_eq, leb→le, eqb→eq, le→leb, lit<, lit≤, eqb_refl}
use lib.Arith.{digits_div, digits_mod}
use lib.Ieee.{nearest}
use lib.Ieee.Nearest.{closest}
use Rattle.decimal_text.specs.declared.Digits.{Digits}
use Rattle.decimal_text.specs.Digits.{one, nearest_of, is_near, digits_from, most_digits, shortest_digits}
use Rattle.decimal_text.specs.Shortest.{NearerThanHalf, Shortest}
use Rattle.decimal_text.specs.Printing.{is_far, capped}
use Rattle.decimal.proofs.Scans.{ten-pos}

-- ---- the nearer of two numbers

-- what `compare` gives, by order
pub compare-lt : (a b : ℕ) → a < b → compare a b ≡ Ordering.lt
compare-lt a b h = go (compare a b) (le→leb a b (omega arith)) (eqb→eq a b)
  where
    go : (o : Ordering) → T (is_le o) → (T (compare_is_eq o) → a ≡ b) → o ≡ Ordering.lt
    go Ordering.lt l e = refl
    go Ordering.eq l e = absurd (omega (arith, e tt))
    go Ordering.gt l e = absurd l

pub compare-gt : (a b : ℕ) → b < a → compare a b ≡ Ordering.gt
compare-gt a b h = go (compare a b) (leb→le a b)
  where
    go : (o : Ordering) → (T (is_le o) → a ≤ b) → o ≡ Ordering.gt
    go Ordering.lt l = absurd (omega (arith, l tt))
    go Ordering.eq l = absurd (omega (arith, l tt))
    go Ordering.gt l = refl

compare-eq : (a b : ℕ) → a ≡ b → compare a b ≡ Ordering.eq
compare-eq a b h = go (compare a b) (rw h (eqb_refl b))
  where
    go : (o : Ordering) → T (compare_is_eq o) → o ≡ Ordering.eq
    go Ordering.lt e = absurd e
    go Ordering.eq e = refl
    go Ordering.gt e = absurd e

closest-is : (q r : ℕ) → r < one → closest (q * one + r) one ≡ nearest q (compare (r * 2) one)
closest-is q r h = rw (digits_div q h, digits_mod q h)

pub nearer-low : (q r : ℕ) → r < one → 2 * r < one → q ≡ closest (q * one + r) one
nearer-low q r h l = sym (closest-is q r h ∙ rw (compare-lt (r * 2) one (omega arith)))

pub nearer-high : (q r : ℕ) → r < one → one < 2 * r → q + 1 ≡ closest (q * one + r) one
nearer-high q r h l = sym (closest-is q r h ∙ rw (compare-gt (r * 2) one (omega arith)) (sym (add-one q)))

pub nearer-tie : (q r : ℕ) → r < one → one ≤ 2 * r → 2 * r ≤ one → q + q % 2 ≡ closest (q * one + r) one
nearer-tie q r h l m = sym (closest-is q r h ∙ rw (compare-eq (r * 2) one (omega arith)))

-- it is q or the next, and the one that is not farther
closest-case : (q r : ℕ) → r < one → ((closest (q * one + r) one ≡ q) × (2 * r ≤ one))
    ⊎ ((closest (q * one + r) one ≡ q + 1) × (one ≤ 2 * r))
closest-case q r h = go (compare (r * 2) one) refl (leb→le (r * 2) one) (eqb→eq (r * 2) one) (closest-is q r h) (q % 2) refl
  where
    go : (o : Ordering) → compare (r * 2) one ≡ o → (T (is_le (compare (r * 2) one)) → r * 2 ≤ one)
        → (T (compare_is_eq (compare (r * 2) one)) → r * 2 ≡ one)
        → closest (q * one + r) one ≡ nearest q (compare (r * 2) one) → (b : ℕ) → q % 2 ≡ b
        → ((closest (q * one + r) one ≡ q) × (2 * r ≤ one)) ⊎ ((closest (q * one + r) one ≡ q + 1) × (one ≤ 2 * r))
    go Ordering.lt e l m c b z = inl (rw e at c, omega (arith, (rw e at l) tt))
    go Ordering.eq e l m c zero z = inl ((rw e at c) ∙ omega (arith, z), omega (arith, (rw e at m) tt))
    go Ordering.eq e l m c (suc b) z = inr ((rw e at c) ∙ omega (arith, z), omega (arith, (rw e at m) tt))
    go Ordering.gt e l m c b z = inr ((rw e at c) ∙ omega arith, omega (arith, above))
      where
        above : one < r * 2
        above = lt_of_not-le (λ (g : r * 2 ≤ one). let t : T (is_le (compare (r * 2) one)) = le→leb (r * 2) one g in absurd (rw e at t))

-- ---- the test

-- what the test says
far-both : (rest margin : ℕ) → is_far rest margin ≡ true → (margin ≤ rest) × (margin ≤ one - rest)
far-both rest margin e = go (leb margin rest) refl e
  where
    go : (b : Bool) → leb margin rest ≡ b → cond b (leb margin (one - rest)) false ≡ true → (margin ≤ rest) × (margin ≤ one - rest)
    go true h e = (leb-true margin rest h, leb-true margin (one - rest) e)
    go false h e = absurd (true≢false (sym e))

near-either : (rest margin : ℕ) → is_far rest margin ≡ false → (rest < margin) ⊎ (one - rest < margin)
near-either rest margin e = go (leb margin rest) refl e
  where
    go : (b : Bool) → leb margin rest ≡ b → cond b (leb margin (one - rest)) false ≡ false → (rest < margin) ⊎ (one - rest < margin)
    go true h e = inr (leb-false margin (one - rest) e)
    go false h e = inl (leb-false margin rest h)

-- the test as 64 bits can make it
pub far-test : (rest margin : ℕ) → rest < one → margin ≤ rest → leb margin (one - 1 - rest + 1) ≡ is_far rest margin
far-test rest margin h l =
    let e : one - 1 - rest + 1 ≡ one - rest = omega arith in
    rw (e, le-leb margin rest l)

-- a margin of more than one half is beyond one side
near-wide : (rest margin : ℕ) → one < 2 * margin → is_far rest margin ≡ false
near-wide rest margin h = go (is_far rest margin) refl
  where
    go : (b : Bool) → is_far rest margin ≡ b → b ≡ false
    go true e = absurd (omega (arith, far-both rest margin e))
    go false e = refl

-- so it may be cut
far-capped : (rest margin : ℕ) → is_far rest (capped margin) ≡ is_far rest margin
far-capped rest margin = go (ltb margin one) refl
  where
    go : (b : Bool) → ltb margin one ≡ b → is_far rest (capped margin) ≡ is_far rest margin
    go true e =
        let l : margin < one = ltb-true margin one e in
        let c : capped margin ≡ margin = omega arith in
        ap (is_far rest) c
    go false e =
        let l : one ≤ margin = ltb-false margin one e in
        near-wide rest (capped margin) (omega arith) ∙ sym (near-wide rest margin (omega arith))

-- ---- the next digit

-- ten times the rest in limbs: what is carried out of the upper one, and what stays in both
pub ten-times : (rest low high : ℕ) → low ≡ 10 * (rest % 2 ^ 32) → high ≡ 10 * (rest / 2 ^ 32) + low / 2 ^ 32
    → (high / 2 ^ 32 ≡ 10 * rest / one) × (high % 2 ^ 32 * 2 ^ 32 + low % 2 ^ 32 ≡ 10 * rest % one)
ten-times rest low high l h =
    let digit = high / 2 ^ 32 in
    let after = high % 2 ^ 32 * 2 ^ 32 + low % 2 ^ 32 in
    let all : 10 * rest ≡ digit * one + after = omega arith in
    let small : after < one = omega arith in
    (sym (ap (λ (x : ℕ). x / one) all ∙ digits_div digit small), sym (ap (λ (x : ℕ). x % one) all ∙ digits_mod digit small))

-- ---- the loop

-- so many digits make number, with rest left over, and fewer are too few; margin is half, as far to the left, but cut
pub record Found (fraction half rest margin number count : ℕ) : Type 0 where
  pub some : 0 < half
  pub exact : number * one + rest ≡ fraction * 10 ^ count
  pub scaled : margin ≡ capped (half * 10 ^ count)
  pub small : rest < one
  pub bounded : number < 10 ^ count
  pub few : count ≤ most_digits
  pub far : (n k : ℕ) → k < count → NearerThanHalf fraction half n k → ⊥

pub found_none : (fraction half margin : ℕ) → 0 < half → margin ≡ capped half → fraction < one → Found fraction half fraction margin 0 0
found_none fraction half margin h e l =
    record {
      some = h;
      exact = omega (arith, mul-one fraction);
      scaled = e ∙ ap capped (sym (mul-one half));
      small = l;
      bounded = lit< tt;
      few = lit≤ tt;
      far = λ n k i w. omega arith;
    }

module _ {fraction half rest margin number count : ℕ} (f : Found fraction half rest margin number count) where
  -- the test of the margin that is not cut
  uncut : (b : Bool) → is_far rest margin ≡ b → is_far rest (half * 10 ^ count) ≡ b
  uncut b t = sym (ap (is_far rest) f.scaled ∙ far-capped rest (half * 10 ^ count)) ∙ t

  far-sides : is_far rest margin ≡ true → (half * 10 ^ count ≤ rest) × (half * 10 ^ count ≤ one - rest)
  far-sides t = far-both rest (half * 10 ^ count) (uncut true t)

  near-side : is_far rest margin ≡ false → (rest < half * 10 ^ count) ⊎ (one - rest < half * 10 ^ count)
  near-side t = near-either rest (half * 10 ^ count) (uncut false t)

  -- where one digit more is needed, there is room for it
  pub far-few : is_far rest margin ≡ true → count < most_digits
  far-few t =
      lt_of_not-le (λ (g : most_digits ≤ count). omega (arith, far-sides t, pow-le-pow_right (zero-lt-suc 9) g, mul-le-mul_right (10 ^ count) f.some))

  pub number-below : (n : ℕ) → count ≤ n → number < 10 ^ n
  number-below n h = lt_of_lt_of_le f.bounded (pow-le-pow_right (zero-lt-suc 9) h)

  pub far-below : is_far rest margin ≡ true → number < 10 ^ (most_digits - 1)
  far-below t = number-below (most_digits - 1) (omega (arith, far-few t))

  -- so many digits are too few
  too_few : is_far rest margin ≡ true → (n : ℕ) → NearerThanHalf fraction half n count → ⊥
  too_few t n w = omega (arith, far-sides t, f.exact, f.small, w.0, w.1, add-mul fraction half (10 ^ count))

  pub found-more : is_far rest margin ≡ true → (digit after wide : ℕ) → (digit ≡ 10 * rest / one) × (after ≡ 10 * rest % one) → wide ≡ capped (10 * margin)
      → Found fraction half after wide (10 * number + digit) (count + 1)
  found-more t digit after wide s e =
      record {
        some = f.some;
        exact = rw (add-one count, pow-suc 10 count) (omega (arith, f.exact, s, div-add-mod' (10 * rest) one, mul_assoc fraction (10 ^ count) 10));
        scaled = rw (add-one count, pow-suc 10 count) (omega (arith, e, f.scaled, mul_assoc half (10 ^ count) 10));
        small = rw s.1 (mod-lt (10 * rest) (lit< tt));
        bounded = rw (add-one count, pow-suc 10 count) (omega (arith, f.bounded, f.small, s));
        few = omega (arith, far-few t);
        far = λ n k i w. let g : k ≤ count = omega arith in elim (eq-or-lt_of_le g) [ inl h ↦ too_few t n (rw h at w) | inr m ↦ f.far n k m w ];
      }

  near-low : (n : ℕ) → n ≡ number → 2 * rest ≤ one → (rest < half * 10 ^ count) ⊎ (one - rest < half * 10 ^ count) → NearerThanHalf fraction half n count
  near-low n e h (inl l) = (omega (arith, f.exact, add-mul fraction half (10 ^ count)), omega (arith, f.exact))
  near-low n e h (inr l) = (omega (arith, f.exact, add-mul fraction half (10 ^ count)), omega (arith, f.exact))

  near-high : (n : ℕ) → n ≡ number + 1 → one ≤ 2 * rest → (rest < half * 10 ^ count) ⊎ (one - rest < half * 10 ^ count)
      → NearerThanHalf fraction half n count
  near-high n e h (inl l) = (omega (arith, f.exact, f.small, add-mul fraction half (10 ^ count)), omega (arith, f.exact, f.small))
  near-high n e h (inr l) = (omega (arith, f.exact, f.small, add-mul fraction half (10 ^ count)), omega (arith, f.exact, f.small))

  pub found-end : is_far rest margin ≡ false → (n : ℕ) → n ≡ closest (number * one + rest) one
      → Shortest fraction half (record { number = n; count = count })
  found-end t n e =
      record {
        within = elim (closest-case number rest f.small) [
          | inl g ↦ near-low n (e ∙ g.0) g.1 (near-side t)
          | inr g ↦ near-high n (e ∙ g.0) g.1 (near-side t)
        ];
        fewest = f.far;
        nearest = e ∙ ap (λ (x : ℕ). closest x one) f.exact;
        few = f.few;
      }

  found_here : is_far rest margin ≡ false → (d : Digits) × Shortest fraction half d
  found_here t =
      let n = closest (number * one + rest) one in
      (record { number = n; count = count }, found-end t n refl)

-- a fraction's digits are a fraction's: no whole number
pub proper : (fraction half : ℕ) (d : Digits) → fraction + half ≤ one → Shortest fraction half d → d.number < 10 ^ d.count
proper fraction half d h s =
    lt_of_not-le (λ (g : 10 ^ d.count ≤ d.number). omega
    (arith, s.within.0, mul-le-mul_right (10 ^ d.count) h, mul-le-mul_right one g, mul_comm (10 ^ d.count) one))

-- ---- the digits as a function

near-true : (fraction half n k : ℕ) → is_near fraction half n k ≡ true → NearerThanHalf fraction half n k
near-true fraction half n k e = go (ltb (n * one) ((fraction + half) * 10 ^ k)) refl e
  where
    go : (b : Bool) → ltb (n * one) ((fraction + half) * 10 ^ k) ≡ b
        → cond b (ltb (fraction * 10 ^ k) (n * one + half * 10 ^ k)) false ≡ true → NearerThanHalf fraction half n k
    go true h e = (ltb-true (n * one) ((fraction + half) * 10 ^ k) h, ltb-true (fraction * 10 ^ k) (n * one + half * 10 ^ k) e)
    go false h e = absurd (true≢false (sym e))

is-near : (fraction half n k : ℕ) → NearerThanHalf fraction half n k → is_near fraction half n k ≡ true
is-near fraction half n k w =
    rw (lt-ltb (n * one) ((fraction + half) * 10 ^ k) w.0, lt-ltb (fraction * 10 ^ k) (n * one + half * 10 ^ k) w.1)

module _ (fraction half : ℕ) (d : Digits) (s : Shortest fraction half d) where
  digits-at : (k : ℕ) → k ≡ d.count → nearest_of fraction k ≡ d
  digits-at k e = rw e (λ i. record { number = sym s.nearest i; count = d.count })

  digits-from : (k more : ℕ) → k ≤ d.count → d.count ≤ k + more → digits_from fraction half k more ≡ d
  unfolding digits_from
  digits-from k zero l m = digits-at k (omega arith)
  digits-from k (suc more) l m = go (digits-from (suc k) more) (is_near fraction half (nearest_of fraction k).number k) refl
    where
      go : (suc k ≤ d.count → d.count ≤ suc k + more → digits_from fraction half (suc k) more ≡ d) → (b : Bool)
          → is_near fraction half (nearest_of fraction k).number k ≡ b → cond b (nearest_of fraction k) (digits_from fraction half (suc k) more) ≡ d
      go later true e = elim (eq-or-lt_of_le l) [
        | inl h ↦ digits-at k h
        | inr h ↦ absurd (s.fewest (nearest_of fraction k).number k h (near-true fraction half (nearest_of fraction k).number k e))
      ]
      go later false e = elim (eq-or-lt_of_le l) [
        | inl h ↦ absurd (true≢false (sym (is-near fraction half (nearest_of fraction k).number k (rw (h, ← s.nearest) s.within)) ∙ e))
        | inr h ↦ later h (omega arith)
      ]

  -- the digits that are the shortest are those of the function
  pub digits_same : shortest_digits fraction half ≡ d
  unfolding shortest_digits
  digits_same = digits-from 0 most_digits (omega arith) (omega (arith, s.few))

-- there are such digits: the loop finds them
module _ (fraction half : ℕ) where
  find : (more rest margin number count : ℕ) → Found fraction half rest margin number count → most_digits ≤ count + more
      → (d : Digits) × Shortest fraction half d
  find zero rest margin number count f m = go (is_far rest margin) refl
    where
      go : (b : Bool) → is_far rest margin ≡ b → (d : Digits) × Shortest fraction half d
      go false e = found_here f e
      go true e = absurd (omega (arith, far-few f e))
  find (suc more) rest margin number count f m =
      go (find more (10 * rest % one) (capped (10 * margin)) (10 * number + 10 * rest / one) (count + 1)) (is_far rest margin) refl
    where
      go : (Found fraction half (10 * rest % one) (capped (10 * margin)) (10 * number + 10 * rest / one) (count + 1) → most_digits ≤ count + 1 + more
          → (d : Digits) × Shortest fraction half d)
          → (b : Bool) → is_far rest margin ≡ b → (d : Digits) × Shortest fraction half d
      go later false e = found_here f e
      go later true e =
          later (found-more f e (10 * rest / one) (10 * rest % one) (capped (10 * margin)) (refl, refl) refl) (omega arith)

  pub digits-shortest : 0 < half → fraction < one → Shortest fraction half (shortest_digits fraction half)
  digits-shortest h l =
      let s = find most_digits fraction (capped half) 0 0 (found_none fraction half (capped half) h refl l) (omega arith) in
      subst (Shortest fraction half) (sym (digits_same fraction half s.0 s.1)) s.1

-- never more
from-few : (fraction half k more : ℕ) → (digits_from fraction half k more).count ≤ k + more
unfolding digits_from
from-few fraction half k zero = omega arith
from-few fraction half k (suc more) = go (from-few fraction half (suc k) more) (is_near fraction half (nearest_of fraction k).number k)
  where
    go : (digits_from fraction half (suc k) more).count ≤ suc k + more → (b : Bool)
        → (cond b (nearest_of fraction k) (digits_from fraction half (suc k) more)).count ≤ k + suc more
    go later true = omega arith
    go later false = omega (arith, later)

pub digits-few : (fraction half : ℕ) → (shortest_digits fraction half).count ≤ most_digits
unfolding shortest_digits
digits-few fraction half = from-few fraction half 0 most_digits
