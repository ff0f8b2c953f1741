-- What is put for a float is read as the same float, where it has no more digits than are read.
use Rattle.std.specs.Prelude.{Ok}
use mathlib.Core.Path.{◌≡◌, refl, ap, ap₂, ◌∙◌}
use mathlib.Core.Bool.{Bool, true, false, cond}
use mathlib.Core.List.{List, [], ◌∷◌, ◌++◌, append-nil}
use Prim.Native.Nat.{ℕ, zero, suc, ◌+◌, ◌-◌, ◌*◌, ◌/◌, ◌%◌, ◌^◌, ◌≤◌, ◌<◌}
use native.Mathlib.Nat.{mul_assoc, mul-one, pow-suc, mod-lt, div-add-mod', div-lt_iff_lt-mul}
use native.Mathlib.Omega.{arith}
use borrow.Author.Tests.{le-leb, le-ltb, lt-ltb, eqb-true, ne_eqb}
use lib.Dec.{eqb, lit<}
use lib.ListN.{length, get_or, length-append}
use lib.Ieee.{Float, binary64, round, to_bits, fits}
use Rattle.numerals.specs.Numerals.{digit_byte, digit_text, numeral}
use Rattle.numerals.specs.Sizes.{IsSize}
use Rattle.numerals.proofs.Digits.{digits-length}
use Rattle.numerals.proofs.Sizes.{size-exists, numeral-digits, numeral-length}
use Rattle.decimal_text.specs.declared.Digits.{Digits}
use Rattle.decimal_text.specs.declared.Parts.{Parts}
use Rattle.decimal.specs.Decimal.{is_digit, are_digits, value_after, whole_part, fraction_part, digits_in, unsigned_of, decimal_of}
use Rattle.decimal_text.specs.Text.{text_of, in_decimal_range, parts_in, number_text}
use Rattle.decimal_text.specs.Shortest.{Shown}
use Rattle.decimal.proofs.Scans.{digit-least, digit-no-point}
use Rattle.decimal_text.proofs.Sizes.{whole_below}
use Rattle.decimal_text.proofs.Floats.{range-fields, shown}

-- ---- digits

byte-is : (d : ℕ) → d < 10 → digit_byte d ≡ 48 + d
byte-is d h = rw (lt-ltb d 10 h)

byte-digit : (d : ℕ) → d < 10 → is_digit (digit_byte d) ≡ true
byte-digit d h = ap is_digit (byte-is d h) ∙ rw (le-leb 48 (48 + d) (omega arith), le-leb (48 + d) 57 (omega arith))

pub digit-first : (b : ℕ) (bs : List ℕ) → are_digits (b ∷ bs) ≡ true → is_digit b ≡ true
digit-first b bs e = go (is_digit b) e
  where
    go : (t : Bool) → cond t (are_digits bs) false ≡ true → t ≡ true
    go true e = refl
    go false e = e

pub digit-rest : (b : ℕ) (bs : List ℕ) → are_digits (b ∷ bs) ≡ true → are_digits bs ≡ true
digit-rest b bs e = rw (digit-first b bs e) at e

digits-join : (xs ys : List ℕ) → are_digits xs ≡ true → are_digits ys ≡ true → are_digits (xs ++ ys) ≡ true
digits-join [] ys e f = f
digits-join (b ∷ xs) ys e f = rw (digit-first b xs e) (digits-join xs ys (digit-rest b xs e) f)

pub text-digits : (k n : ℕ) → are_digits (digit_text 10 k n) ≡ true
text-digits zero n = refl
text-digits (suc k) n = digits-join (digit_text 10 k (n / 10)) (digit_byte (n % 10) ∷ []) (text-digits k (n / 10)) (rw (byte-digit (n % 10) (mod-lt n (lit< tt))))

-- ---- the number that they make

value-join : (v : ℕ) (xs ys : List ℕ) → value_after v (xs ++ ys) ≡ value_after (value_after v xs) ys
value-join v [] ys = refl
value-join v (b ∷ xs) ys = value-join (10 * v + (b - 48)) xs ys

pub text-value : (v k n : ℕ) → n < 10 ^ k → value_after v (digit_text 10 k n) ≡ v * 10 ^ k + n
text-value v zero n h = omega (arith, mul-one v)
text-value v (suc k) n h =
    let p : n < 10 ^ k * 10 = rw (pow-suc 10 k) at h in
    let q : n / 10 < 10 ^ k = (div-lt_iff_lt-mul (lit< tt)).1 p in
    let r : n % 10 < 10 = mod-lt n (lit< tt) in
    value-join v (digit_text 10 k (n / 10)) (digit_byte (n % 10) ∷ [])
    ∙ ap₂ (λ (a b : ℕ). 10 * a + (b - 48)) (text-value v k (n / 10) q) (byte-is (n % 10) r)
    ∙ rw (pow-suc 10 k) (omega (arith, div-add-mod' n 10, mul_assoc v (10 ^ k) 10))

-- ---- the parts of a text

whole-only : (xs : List ℕ) → are_digits xs ≡ true → whole_part xs ≡ xs
whole-only [] e = refl
whole-only (b ∷ xs) e = rw (digit-no-point b (digit-first b xs e)) (ap (λ (l : List ℕ). b ∷ l) (whole-only xs (digit-rest b xs e)))

fraction-none : (xs : List ℕ) → are_digits xs ≡ true → fraction_part xs ≡ []
fraction-none [] e = refl
fraction-none (b ∷ xs) e = rw (digit-no-point b (digit-first b xs e)) (fraction-none xs (digit-rest b xs e))

whole-first : (xs ys : List ℕ) → are_digits xs ≡ true → whole_part (xs ++ 46 ∷ ys) ≡ xs
whole-first [] ys e = refl
whole-first (b ∷ xs) ys e = rw (digit-no-point b (digit-first b xs e)) (ap (λ (l : List ℕ). b ∷ l) (whole-first xs ys (digit-rest b xs e)))

fraction-last : (xs ys : List ℕ) → are_digits xs ≡ true → fraction_part (xs ++ 46 ∷ ys) ≡ ys
fraction-last [] ys e = refl
fraction-last (b ∷ xs) ys e = rw (digit-no-point b (digit-first b xs e)) (fraction-last xs ys (digit-rest b xs e))

-- no sign before digits
no_sign : (xs ys : List ℕ) → are_digits xs ≡ true → 0 < length xs → eqb (get_or (xs ++ ys) 0 0) 45 ≡ false
no_sign [] ys e h = absurd (omega arith)
no_sign (b ∷ xs) ys e h = ne_eqb b 45 (λ z. omega (arith, z, digit-least b (digit-first b xs e)))

-- a text of a whole number and a fraction
read-parts : (t xs ys : List ℕ) → are_digits xs ≡ true → are_digits ys ≡ true → whole_part t ≡ xs → fraction_part t ≡ ys → 0 < length xs
    → length (digits_in t) ≤ 15 → unsigned_of false t ≡ Ok (round binary64 false (value_after 0 (xs ++ ys)) (10 ^ length ys))
unfolding unsigned_of
read-parts t xs ys e f p q h l =
    let m : length (xs ++ ys) ≤ 15 = rw (p, q) at l in
    rw (p, q, digits-join xs ys e f)
    (rw (ne_eqb (length (xs ++ ys)) 0 (λ z. omega (arith, z, length-append xs ys)), le-ltb 15 (length (xs ++ ys)) m))

text-parts : (whole : ℕ) (d : Digits) → are_digits (numeral whole) ≡ true → (whole_part (text_of whole d) ≡ numeral whole)
    × (fraction_part (text_of whole d) ≡ digit_text 10 d.count d.number)
text-parts whole d a = go (eqb d.count 0) refl
  where
    go : (b : Bool) → eqb d.count 0 ≡ b
        → (whole_part (numeral whole ++ cond b [] (46 ∷ digit_text 10 d.count d.number)) ≡ numeral whole)
        × (fraction_part (numeral whole ++ cond b [] (46 ∷ digit_text 10 d.count d.number)) ≡ digit_text 10 d.count d.number)
    go false e = (
      whole-first (numeral whole) (digit_text 10 d.count d.number) a,
      fraction-last (numeral whole) (digit_text 10 d.count d.number) a,
    )
    go true e = rw (append-nil (numeral whole), eqb-true d.count 0 e) (whole-only (numeral whole) a, fraction-none (numeral whole) a)

-- ---- a numeral

record Numeral (n : ℕ) : Type 0 where
  digits : are_digits (numeral n) ≡ true
  value : value_after 0 (numeral n) ≡ n
  some : 0 < length (numeral n)

numeral-read : (n : ℕ) → n < 18446744073709551616 → Numeral n
numeral-read n h =
    let k = suc (size-exists n h).0 in
    let s : IsSize n k = (size-exists n h).1 in
    let e : numeral n ≡ digit_text 10 k n = numeral-digits n k h s in
    record {
      digits = ap are_digits e ∙ text-digits k n;
      value = ap (value_after 0) e ∙ text-value 0 k n s.enough ∙ omega arith;
      some = omega (arith, numeral-length n k h s, s.some);
    }

-- a text that shows a float is read as it
shown_read : (x : Float) (p : Parts) (bs : List ℕ) → Shown x p bs → p.whole < 18446744073709551616 → length (digits_in bs) ≤ 15 → decimal_of bs ≡ Ok x
shown_read x p bs s h l =
    let d = s.digits in
    let w = numeral-read p.whole h in
    let D = numeral p.whole in
    let E = digit_text 10 d.count d.number in
    let t = text-parts p.whole d w.digits in
    let m : length (digits_in (text_of p.whole d)) ≤ 15 = rw s.text at l in
    let v : value_after 0 (D ++ E) ≡ p.whole * 10 ^ d.count + d.number =
    value-join 0 D E ∙ ap (λ (a : ℕ). value_after a E) w.value ∙ text-value p.whole d.count d.number s.proper in
    rw (s.text, no_sign D (cond (eqb d.count 0) [] (46 ∷ E)) w.digits w.some)
    (read-parts (text_of p.whole d) D E w.digits (text-digits d.count d.number) t.0 t.1 w.some m
    ∙ ap Ok (ap₂ (λ (a k : ℕ). round binary64 false a (10 ^ k)) v (digits-length 10 d.count d.number) ∙ s.reads))

-- what is put for a float is read as the same float
pub round_trip : (x : Float) → fits binary64 x ≡ true → in_decimal_range x ≡ true → length (digits_in (number_text x)) ≤ 15
    → decimal_of (number_text x) ≡ Ok x
round_trip x f i l =
    let bits = to_bits binary64 x in
    let b = whole_below (bits / 2 ^ 52) (bits % 2 ^ 52) (range-fields x i).1 (mod-lt bits (lit< tt)) in
    shown_read x (parts_in bits) (number_text x) (shown x f i) (omega (arith, b)) l
