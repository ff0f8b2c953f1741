-- What is nearer to a float than half the distance to any other rounds to it.
use mathlib.Core.Path.{◌≡◌, refl, sym, ap, ◌∙◌}
use mathlib.Core.Bool.{Bool, true, false}
use Prim.Native.Nat.{ℕ, zero, suc, ◌+◌, ◌-◌, ◌*◌, ◌/◌, ◌%◌, ◌^◌, ◌≤◌, ◌<◌}
use native.Mathlib.Nat.{mul_assoc, mul_comm, mul_left_comm, mul-le-mul_right, suc-mul, mod-lt, div-add-mod', le_antisymm, le-div_iff_mul-le, div-lt_iff_lt-mul, lt_of_not-le, lt_of_lt_of_le, not-le_of_lt, le_of_suc-le-suc, mul-pos}
use native.Mathlib.Omega.{arith}
use borrow.Author.Tests.{leb-true, leb-false, lt-ltb}
use lib.Count.{count_trailing_zeros, under}
use lib.Dec.{leb}
use lib.Pow.{pow-add, pow_pos, pow_mono}
use lib.Ieee.{binary64, size, nearest, odd, units, round}
use lib.Ieee.Digits.{size-lt, size-le}
use lib.Ieee.Fits.{round_is}
use lib.Ieee.Nearest.{closest}
use Rattle.decimal_text.proofs.Shortest.{compare-lt, compare-gt}

-- ---- a fraction nearer to q than a half

module _ (n u q : ℕ) (U : 0 < u) (a : 2 * (q * u) < 2 * n + u) (b : 2 * n < 2 * (q * u) + u) where
  not_more : n / u ≤ q
  not_more = le_of_suc-le-suc (lt_of_not-le (λ (g : suc q ≤ n / u). omega (arith, a, b, div-add-mod' n u, suc-mul q u, mul-le-mul_right u g)))

  not-less : q ≤ suc (n / u)
  not-less = le_of_suc-le-suc (lt_of_not-le (λ (g : suc (suc (n / u)) ≤ q). omega
      (arith, a, b, div-add-mod' n u, mod-lt n U, suc-mul (suc (n / u)) u, suc-mul (n / u) u, mul-le-mul_right u g)))

  pub closest-at : closest n u ≡ q
  closest-at = go (leb q (n / u)) refl
    where
      go : (t : Bool) → leb q (n / u) ≡ t → closest n u ≡ q
      go true h =
          let e : n / u ≡ q = le_antisymm not_more (leb-true q (n / u) h) in
          let m : n / u * u ≡ q * u = ap (λ (x : ℕ). x * u) e in
          ap (nearest (n / u)) (compare-lt (n % u * 2) u (omega (arith, div-add-mod' n u, m, b))) ∙ e
      go false h =
          let e : q ≡ suc (n / u) = le_antisymm not-less (leb-false q (n / u) h) in
          let m : q * u ≡ suc (n / u) * u = ap (λ (x : ℕ). x * u) e in
          ap (nearest (n / u)) (compare-gt (n % u * 2) u (omega (arith, div-add-mod' n u, m, suc-mul (n / u) u, a))) ∙ sym e

-- ---- with 53 digits before the point, k are dropped

digits_up : (a k B : ℕ) → 2 ^ (a + k) * B ≡ 2 ^ a * (B * 2 ^ k)
digits_up a k B = rw (pow-add 2 a k) (simp (mul_assoc, mul_comm, mul_left_comm))

module _ (n B k : ℕ) (P : 0 < B) (least : 2 ^ 52 * (B * 2 ^ k) ≤ n) (most : n < 2 ^ 53 * (B * 2 ^ k)) where
  size-least : 52 + k < size (n / B)
  size-least = lt_of_not-le (λ (g : size (n / B) ≤ 52 + k). not-le_of_lt (lt_of_lt_of_le (size-lt (n / B)) (pow_mono g))
      ((le-div_iff_mul-le P).1 (rw (digits_up 52 k B) least)))

  size-most : size (n / B) ≤ 53 + k
  size-most = size-le (n / B) (53 + k) ((div-lt_iff_lt-mul P).1 (rw (digits_up 53 k B) most))

  pub dropped : size (n / B) - 53 ≡ k
  dropped = omega (arith, size-least, size-most)

pub round-at : (N B q k : ℕ) → 0 < B → 2 ^ 52 * (B * 2 ^ k) ≤ N * 2 ^ 1074 → N * 2 ^ 1074 < 2 ^ 53 * (B * 2 ^ k)
    → 2 * (q * (B * 2 ^ k)) < 2 * (N * 2 ^ 1074) + B * 2 ^ k → 2 * (N * 2 ^ 1074) < 2 * (q * (B * 2 ^ k)) + B * 2 ^ k
    → round binary64 false N B ≡ units binary64 false q k
round-at N B q k P l m a b =
    round_is binary64 false N B
    ∙ ap (λ (j : ℕ). units binary64 false (closest (N * 2 ^ 1074) (B * 2 ^ j)) j) (dropped (N * 2 ^ 1074) B k P l m)
    ∙ ap (λ (z : ℕ). units binary64 false z k) (closest-at (N * 2 ^ 1074) (B * 2 ^ k) q (mul-pos P (pow_pos k)) a b)

-- ---- the float that is q * 2 ^ k of the smallest

pub units-odd : (q k : ℕ) → q * 2 ^ k < 2 ^ 2098 → units binary64 false q k ≡ odd 54 false q k 1074
unfolding units
units-odd q k h = rw (lt-ltb (q * 2 ^ k) (2 ^ 2098) h)

zeros-more : (d n : ℕ) → 0 < n → n < 2 ^ d → count_trailing_zeros (suc d) n ≡ count_trailing_zeros d n
unfolding count_trailing_zeros
zeros-more zero n p h = absurd (omega arith)
zeros-more (suc d) n p h = go (λ a b. zeros-more d (n / 2) a b) (n % 2) refl
  where
    go : (0 < n / 2 → n / 2 < 2 ^ d → count_trailing_zeros (suc d) (n / 2) ≡ count_trailing_zeros d (n / 2)) → (r : ℕ) → n % 2 ≡ r
        → under r (count_trailing_zeros (suc d) (n / 2)) ≡ under r (count_trailing_zeros d (n / 2))
    go more (suc r) e = refl
    go more zero e = ap suc (more (omega arith) (omega (arith, pow-add 2 1 d)))

pub odd-same : (q k : ℕ) → 0 < q → q < 2 ^ 53 → odd 54 false q k 1074 ≡ odd 53 false q k 1074
unfolding odd
odd-same zero k p h = refl
odd-same (suc q) k p h = rw (zeros-more 53 (suc q) p h)

-- a power of two, with one digit more
pub odd-double : (k : ℕ) → odd 54 false (2 ^ 53) k 1074 ≡ odd 53 false (2 ^ 52) (suc k) 1074
unfolding odd count_trailing_zeros
odd-double k = let e : k + 53 ≡ suc k + 52 = omega arith in rw e
