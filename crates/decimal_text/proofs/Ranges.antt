-- The floats from 2^-10 to below 2^20 are those with certain exponent fields.
use mathlib.Core.Path.{◌≡◌, refl, sym, ap, ap₂, ◌∙◌}
use mathlib.Core.Logic.{inl, inr}
use mathlib.Core.Bool.{Bool, true, false, cond, ◌&&◌, ◌||◌, true≢false}
use Prim.Native.Nat.{ℕ, suc, ◌+◌, ◌-◌, ◌*◌, ◌/◌, ◌^◌, ◌≤◌, ◌<◌}
use native.Mathlib.Nat.{mul_assoc, mul_comm, mul_right_comm, one-mul, mul-one, mul-le-mul_right, mul-lt-mul_of_pos_right, le_of_mul-le-mul_right, eq-or-lt_of_le, le_of_lt, le_of_eq, le-div_iff_mul-le, div-lt_iff_lt-mul, lt_of_not-le, lt_of_lt_of_le, not-le_of_lt}
use native.Mathlib.Omega.{arith}
use borrow.Author.Tests.{le-leb, lt-leb, lt-ltb, le-ltb, leb-true, leb-false, ltb-true, ltb-false, eq-eqb, ne_eqb}
use lib.Dec.{eqb, leb, ltb}
use lib.IntN.{ℤ}
use lib.Pow.{pow-add, pow_pos, pow_mono}
use lib.Ieee.{Float, nan, inf, fin, binary64, up, down, size, le, lt, is_nan, to_bits}
use lib.Ieee.Digits.{size-lt, size-le, size_reaches}
use lib.Ieee.Fits.{down_pos, kept-lt}
use Rattle.decimal_text.specs.Text.{in_decimal_range}
use Rattle.decimal_text.specs.Printing.{in_fields}

-- ---- tests that come to the same

leb-same : (a b c d : ℕ) → (a ≤ b → c ≤ d) → (c ≤ d → a ≤ b) → leb a b ≡ leb c d
leb-same a b c d f g = go (leb a b) refl
  where
    go : (t : Bool) → leb a b ≡ t → t ≡ leb c d
    go true e = sym (le-leb c d (f (leb-true a b e)))
    go false e = sym (lt-leb c d (lt_of_not-le (λ (h : c ≤ d). not-le_of_lt (leb-false a b e) (g h))))

less-or-same : (a b : ℕ) → (ltb a b || (eqb a b && true)) ≡ leb a b
less-or-same a b = go (leb a b) refl
  where
    go : (t : Bool) → leb a b ≡ t → (ltb a b || (eqb a b && true)) ≡ t
    go true e = elim (eq-or-lt_of_le (leb-true a b e)) [ inl h ↦ rw (le-ltb a b (le_of_eq (sym h)), eq-eqb a b h) | inr h ↦ rw (lt-ltb a b h) ]
    go false e = let h : b < a = leb-false a b e in rw (le-ltb a b (le_of_lt h), ne_eqb a b (λ z. omega arith))

-- ---- the field of a size n, in parts of the smallest float

-- k digits dropped, v kept
field_below : (k v : ℕ) → k ≤ 1011 → v < 2 ^ 53 → in_fields ((0 + k * 2 ^ 52 + v) / 2 ^ 52) ≡ false
field_below k v h l = rw (lt-leb 1013 ((0 + k * 2 ^ 52 + v) / 2 ^ 52) (omega arith))

field-above : (k v : ℕ) → 1042 ≤ k → 2 ^ 52 ≤ v → in_fields ((0 + k * 2 ^ 52 + v) / 2 ^ 52) ≡ false
field-above k v h l = rw (le-leb 1013 ((0 + k * 2 ^ 52 + v) / 2 ^ 52) (omega arith), lt-leb ((0 + k * 2 ^ 52 + v) / 2 ^ 52) 1042 (omega arith))

field-within : (k v : ℕ) → 1012 ≤ k → k ≤ 1041 → 2 ^ 52 ≤ v → v < 2 ^ 53 → in_fields ((0 + k * 2 ^ 52 + v) / 2 ^ 52) ≡ true
field-within k v h g l m = rw (le-leb 1013 ((0 + k * 2 ^ 52 + v) / 2 ^ 52) (omega arith), le-leb ((0 + k * 2 ^ 52 + v) / 2 ^ 52) 1042 (omega arith))

field-negative : (a b : ℕ) → in_fields ((2 ^ 63 + a + b) / 2 ^ 52) ≡ false
field-negative a b = rw (le-leb 1013 ((2 ^ 63 + a + b) / 2 ^ 52) (omega arith), lt-leb ((2 ^ 63 + a + b) / 2 ^ 52) 1042 (omega arith))

dropped-most : (z j : ℕ) → z ≤ j + 53 → z - 53 ≤ j
dropped-most z j h = omega arith

dropped-least : (z j : ℕ) → j + 53 ≤ z → j ≤ z - 53
dropped-least z j h = omega arith

size-more : (n j : ℕ) → 2 ^ j ≤ n → suc j ≤ size n
size-more n j h = lt_of_not-le (λ (g : size n ≤ j). not-le_of_lt (lt_of_lt_of_le (size-lt n) (pow_mono g)) h)

last-place : (z : ℕ) → 53 ≤ z → 52 + (z - 53) < z
last-place z h = omega arith

kept-least : (n : ℕ) → 53 ≤ size n → 2 ^ 52 ≤ n / 2 ^ (size n - 53)
kept-least n h =
    (le-div_iff_mul-le (pow_pos (size n - 53))).1 (rw (← pow-add 2 52 (size n - 53)) (size_reaches n (52 + (size n - 53)) (last-place (size n) h)))

abbrev bits_of : ℕ → ℕ
bits_of n = 0 + (size n - 53) * 2 ^ 52 + n / 2 ^ (size n - 53)

enough : (j z : ℕ) → j + 53 ≤ z → 53 ≤ z
enough j z h = omega arith

field_is : (n : ℕ) → cond (leb (2 ^ 1064) n) (ltb n (2 ^ 1094)) false ≡ in_fields (bits_of n / 2 ^ 52)
field_is n = go (leb (2 ^ 1064) n) refl (ltb n (2 ^ 1094)) refl
  where
    go : (s : Bool) → leb (2 ^ 1064) n ≡ s → (t : Bool) → ltb n (2 ^ 1094) ≡ t → cond s t false ≡ in_fields (bits_of n / 2 ^ 52)
    go false e t f = sym (field_below (size n - 53) (n / 2 ^ (size n - 53)) (dropped-most (size n) 1011 (size-le n 1064 (leb-false (2 ^ 1064) n e)))
        (kept-lt 53 n))
    go true e true f =
        let g : 1012 + 53 ≤ size n = size-more n 1064 (leb-true (2 ^ 1064) n e) in
        sym (field-within (size n - 53) (n / 2 ^ (size n - 53)) (dropped-least (size n) 1012 g)
        (dropped-most (size n) 1041 (size-le n 1094 (ltb-true n (2 ^ 1094) f))) (kept-least n (enough 1012 (size n) g)) (kept-lt 53 n))
    go true e false f =
        let g : 1042 + 53 ≤ size n = size-more n 1094 (ltb-false n (2 ^ 1094) f) in
        sym (field-above (size n - 53) (n / 2 ^ (size n - 53)) (dropped-least (size n) 1042 g) (kept-least n (enough 1042 (size n) g)))

-- ---- the order, in parts of the smallest float

thousandth : (X c : ℕ) → 0 < c → leb c (X * 1024) ≡ leb (2 ^ 1064) (X * 2 ^ 1074 / c)
thousandth X c C =
    leb-same c (X * 1024) (2 ^ 1064) (X * 2 ^ 1074 / c)
    (λ h. (le-div_iff_mul-le C).1 (rw (mul_comm (2 ^ 1064) c, ← mul_assoc X 1024 (2 ^ 1064)) (mul-le-mul_right (2 ^ 1064) h)))
    (λ h. le_of_mul-le-mul_right (rw (mul_assoc X 1024 (2 ^ 1064), mul_comm c (2 ^ 1064)) ((le-div_iff_mul-le C).0 h)) (pow_pos 1064))

million : (X c : ℕ) → 0 < c → ltb X (2 ^ 20 * c) ≡ ltb (X * 2 ^ 1074 / c) (2 ^ 1094)
million X c C =
    leb-same (suc X) (2 ^ 20 * c) (suc (X * 2 ^ 1074 / c)) (2 ^ 1094)
    (λ h. (div-lt_iff_lt-mul C).1 (rw (← mul_right_comm (2 ^ 20) c (2 ^ 1074)) (mul-lt-mul_of_pos_right h (pow_pos 1074))))
    (λ h. lt_of_not-le (λ (g : 2 ^ 20 * c ≤ X). not-le_of_lt ((div-lt_iff_lt-mul C).0 h)
    (rw (← mul_right_comm (2 ^ 20) c (2 ^ 1074)) (mul-le-mul_right (2 ^ 1074) g))))

and-false : (b : Bool) → (b && false) ≡ false
and-false true = refl
and-false false = refl

not-zero : (c : ℕ) → 0 < c → 1 * c ≡ 0 → ⊥
not-zero c C e = omega arith

range-positive : (m : ℕ) (e : ℤ) → in_decimal_range (fin false m e) ≡ cond (leb (2 ^ 1064) (m * up e * 2 ^ 1074 / down e))
    (ltb (m * up e * 2 ^ 1074 / down e) (2 ^ 1094)) false
unfolding le lt
range-positive m e =
    ap₂ (λ (s t : Bool). cond s t false)
    (less-or-same (1 * down e) (m * up e * 1024) ∙ ap (λ (c : ℕ). leb c (m * up e * 1024)) (one-mul (down e)) ∙ thousandth (m * up e) (down e) (down_pos e))
    (ap (λ (a : ℕ). ltb a (2 ^ 20 * down e)) (mul-one (m * up e)) ∙ million (m * up e) (down e) (down_pos e))

range-negative : (m : ℕ) (e : ℤ) → in_decimal_range (fin true m e) ≡ false
unfolding le
range-negative m e = rw (ne_eqb (1 * down e) 0 (not-zero (down e) (down_pos e)), and-false (eqb (1 * down e) (m * up e * 1024)))

field-minus : (n : ℕ) → in_fields ((2 ^ 63 + (size n - 53) * 2 ^ 52 + n / 2 ^ (size n - 53)) / 2 ^ 52) ≡ false
field-minus n = field-negative ((size n - 53) * 2 ^ 52) (n / 2 ^ (size n - 53))

-- what is no number is not in the range
pub nan-out : (x : Float) → is_nan x ≡ true → in_decimal_range x ≡ false
unfolding le is_nan
nan-out nan e = refl
nan-out (inf s) e = absurd (true≢false (sym e))
nan-out (fin s m g) e = absurd (true≢false (sym e))

-- a number is in the range where its exponent field is
pub range-is : (x : Float) → is_nan x ≡ false → in_decimal_range x ≡ in_fields (to_bits binary64 x / 2 ^ 52)
unfolding le lt to_bits is_nan
range-is nan e = absurd (true≢false e)
range-is (inf false) e = refl
range-is (inf true) e = refl
range-is (fin true m g) e = range-negative m g ∙ sym (field-minus (m * up g * 2 ^ 1074 / down g))
range-is (fin false m g) e = range-positive m g ∙ field_is (m * up g * 2 ^ 1074 / down g)
