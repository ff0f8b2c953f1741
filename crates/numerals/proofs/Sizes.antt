-- How many digits a numeral has, and that it is its digits.
use mathlib.Core.Path.{◌≡◌, refl, sym, ap, ◌∙◌, subst}
use mathlib.Core.Bool.{Bool, true, false, cond}
use mathlib.Core.List.{List, [], ◌∷◌, ◌++◌}
use Prim.Native.Nat.{ℕ, zero, suc, ◌+◌, ◌/◌, ◌%◌, ◌^◌, ◌≤◌, ◌<◌}
use native.Mathlib.Nat.{zero-add, pow-suc, mod-lt, div-lt_iff_lt-mul, le-div_iff_mul-le, le_of_suc-le-suc, lt_of_not-le}
use native.Mathlib.Numerals.{add-one}
use native.Mathlib.Omega.{arith}
use borrow.Author.Tests.{lt-ltb, le-ltb, ltb-true, ltb-false}
use lib.Dec.{ltb, lit<}
use lib.ListN.{length, length-append}
use Rattle.numerals.specs.Numerals.{digit_text, numeral_within, numeral}
use Rattle.numerals.specs.Sizes.{IsSize}
use Rattle.numerals.proofs.Digits.{digits-length}

-- ---- sizes

pub size-one : (n : ℕ) → n < 10 → IsSize n 1
size-one n h = record { some = lit< tt; enough = h; all = λ j a b. absurd (omega arith) }

-- a tenth part has a digit less
pub size_less : (n k : ℕ) → IsSize n (suc (suc k)) → IsSize (n / 10) (suc k)
size_less n k s =
    record {
      some = omega arith;
      enough = (div-lt_iff_lt-mul (lit< tt)).1 (subst (λ (x : ℕ). n < x) (pow-suc 10 (suc k)) s.enough);
      all = λ j a b. (le-div_iff_mul-le (lit< tt)).1 (subst (λ (x : ℕ). x ≤ n) (pow-suc 10 j) (s.all (suc j) (omega arith) (omega arith)));
    }

pub size-more : (n k : ℕ) → 10 ≤ n → IsSize (n / 10) (suc k) → IsSize n (suc (suc k))
size-more n k t s =
    record {
      some = omega arith;
      enough = subst (λ (x : ℕ). n < x) (sym (pow-suc 10 (suc k))) ((div-lt_iff_lt-mul (lit< tt)).0 s.enough);
      all = powers;
    }
  where
    powers : (j : ℕ) → 0 < j → j < suc (suc k) → 10 ^ j ≤ n
    powers zero a b = absurd (omega arith)
    powers (suc zero) a b = t
    powers (suc (suc j)) a b =
        subst (λ (x : ℕ). x ≤ n) (sym (pow-suc 10 (suc j))) ((le-div_iff_mul-le (lit< tt)).0 (s.all (suc j) (omega arith) (omega arith)))

-- no more digits than a bound has
pub size-most : (m n k : ℕ) → 0 < m → IsSize n k → n < 10 ^ m → k ≤ m
size-most m n k z s h = le_of_suc-le-suc (lt_of_not-le (λ (g : suc m ≤ k). omega (arith, s.all m z g)))

size-within : (g n : ℕ) → n < 10 ^ suc g → (k : ℕ) × IsSize n (suc k)
size-within zero n h = (0, size-one n h)
size-within (suc g) n h =
    go (size-within g (n / 10) ((div-lt_iff_lt-mul (lit< tt)).1 (subst (λ (x : ℕ). n < x) (pow-suc 10 (suc g)) h))) (ltb n 10) refl
  where
    go : (k : ℕ) × IsSize (n / 10) (suc k) → (b : Bool) → ltb n 10 ≡ b → (k : ℕ) × IsSize n (suc k)
    go s true e = (0, size-one n (ltb-true n 10 e))
    go s false e = (suc s.0, size-more n s.0 (ltb-false n 10 e) s.1)

-- every number of 64 bits has a size
pub size-exists : (n : ℕ) → n < 18446744073709551616 → (k : ℕ) × IsSize n (suc k)
size-exists n h = size-within 19 n (omega arith)

-- ---- the digits of a numeral

within-digits : (k g n : ℕ) → k ≤ g → IsSize n (suc k) → numeral_within (suc g) n ≡ digit_text 10 (suc k) n
unfolding numeral_within
within-digits zero g n l s =
    rw (lt-ltb n 10 s.enough, lt-ltb (n % 10) 10 (mod-lt n (lit< tt)))
within-digits (suc k) zero n l s = absurd (omega arith)
within-digits (suc k) (suc g) n l s =
    rw (le-ltb n 10 (s.all 1 (lit< tt) (omega arith)), lt-ltb (n % 10) 10 (mod-lt n (lit< tt)))
    (ap (λ (l : List ℕ). l ++ (48 + n % 10) ∷ []) (within-digits k g (n / 10) (omega arith) (size_less n k s)))

pub numeral-digits : (n k : ℕ) → n < 18446744073709551616 → IsSize n k → numeral n ≡ digit_text 10 k n
unfolding numeral
numeral-digits n zero h s = absurd (omega (arith, s.some))
numeral-digits n (suc k) h s = within-digits k 19 n (omega (arith, size-most 20 n (suc k) (lit< tt) s (omega arith))) s

pub numeral-length : (n k : ℕ) → n < 18446744073709551616 → IsSize n k → length (numeral n) ≡ k
numeral-length n k h s = ap length (numeral-digits n k h s) ∙ digits-length 10 k n

-- as many digits as its numeral
pub numeral-size : (n r : ℕ) → n < 18446744073709551616 → r ≡ length (numeral n) → IsSize n r
numeral-size n r h e =
    let s = size-exists n h in
    subst (IsSize n) (sym (e ∙ numeral-length n (suc s.0) h s.1)) s.1

-- ---- counting: digits that the rest has, and those that were cut off it

pub record CutOff (n rest count : ℕ) : Type 0 where
  pub size : (k : ℕ) → IsSize rest (suc k) → IsSize n (k + count)
  pub bound : count + rest ≤ n + 1

pub cut-none : (n : ℕ) → CutOff n n 1
cut-none n = record { size = λ k s. subst (IsSize n) (sym (add-one k)) s; bound = omega arith }

pub cut-more : (n rest count : ℕ) → CutOff n rest count → 10 ≤ rest → CutOff n (rest / 10) (count + 1)
cut-more n rest count c h =
    record {
      size = λ k s. let e : suc k + count ≡ k + (count + 1) = omega arith in subst (IsSize n) e (c.size (suc k) (size-more rest k h s));
      bound = omega (arith, c.bound);
    }

pub cut_all : (n rest count : ℕ) → CutOff n rest count → rest < 10 → IsSize n count
cut_all n rest count c h = subst (IsSize n) (zero-add count) (c.size 0 (size-one rest h))

-- ---- how long a numeral is at most

within-few : (g n : ℕ) → length (numeral_within g n) ≤ g
unfolding numeral_within
within-few zero n = omega arith
within-few (suc g) n = go (within-few g (n / 10)) (ltb n 10)
  where
    go : length (numeral_within g (n / 10)) ≤ g → (b : Bool) → length (cond b [] (numeral_within g (n / 10)) ++ (48 + n % 10) ∷ []) ≤ suc g
    go few true = omega arith
    go few false = omega (arith, length-append (numeral_within g (n / 10)) ((48 + n % 10) ∷ []), few)

-- never more than 20 digits
pub numeral-most : (n : ℕ) → length (numeral n) ≤ 20
unfolding numeral
numeral-most n = within-few 20 n

within-short : (g m n : ℕ) → n < 10 ^ suc m → length (numeral_within g n) ≤ suc m
unfolding numeral_within
within-short zero m n h = omega arith
within-short (suc g) m n h = go (λ k. within-short g k (n / 10)) (ltb n 10) refl m h
  where
    go : ((k : ℕ) → n / 10 < 10 ^ suc k → length (numeral_within g (n / 10)) ≤ suc k) → (b : Bool) → ltb n 10 ≡ b → (m : ℕ) → n < 10 ^ suc m
        → length (cond b [] (numeral_within g (n / 10)) ++ (48 + n % 10) ∷ []) ≤ suc m
    go short true e m h = omega arith
    go short false e zero h = absurd (omega (arith, ltb-false n 10 e, h))
    go short false e (suc m) h =
        omega (
          arith,
          length-append (numeral_within g (n / 10)) ((48 + n % 10) ∷ []),
          short m ((div-lt_iff_lt-mul (lit< tt)).1 (subst (λ (x : ℕ). n < x) (pow-suc 10 (suc m)) h)),
        )

-- no more digits than a bound has
pub numeral-short : (m n : ℕ) → n < 10 ^ suc m → length (numeral n) ≤ suc m
unfolding numeral
numeral-short m n h = within-short 20 m n h
