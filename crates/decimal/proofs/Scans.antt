-- Reading byte by byte gives what the whole text denotes.
use Rattle.std.specs.Prelude.{Result, Ok, Err}
use Rattle.std.proofs.Common.{◌≡◌, ℕ, zero, suc, ◌+◌, ◌-◌, ◌*◌, ◌^◌, ◌<◌, ◌≤◌, Bool, true, false, cond, eqb, ltb, leb, List, [], ◌∷◌, length, get_or, drop, sym, refl, ap, ◌∙◌, le_trans, lt_of_lt_of_le, add-zero, le_of_lt, zero-lt-suc, mul_assoc, one-mul, pow-suc, mul-one, add-one, arith, lit<, lit≤, drop_of_length-le, drop-cons, ltb-false, le-ltb, lt-ltb, eq-eqb, ne_eqb, eqb-true, leb-true}
use native.Mathlib.Nat.{pow-succ', pow-le-pow_right}
use borrow.Author.Tests.{lt-leb}
use lib.Ieee.{Float, binary64, round}
use Rattle.decimal.specs.declared.DecimalFault.{DecimalFault}
use Rattle.decimal.specs.declared.DecimalFault.TheVariants.{NotNumber, TooLong}
use Rattle.decimal.specs.declared.Scan.{Scan}
use Rattle.decimal.specs.Decimal.{is_digit, are_digits, value_after, fraction_part, digits_in, of_digits, unsigned_of}
use Rattle.decimal.specs.Scan.{Bounded, begun, spoiled, pointed, with_digit, scanned_byte, scanned}

-- ---- a digit is 0 to 9

pub digit-least : (b : ℕ) → is_digit b ≡ true → 48 ≤ b
digit-least b e = go (leb 48 b) refl e
  where
    go : (t : Bool) → leb 48 b ≡ t → cond t (leb b 57) false ≡ true → 48 ≤ b
    go true h e = leb-true 48 b h
    go false h e = let z : ◌≡◌ {A = ℕ} 0 1 = cc in absurd (omega arith)

pub digit-most : (b : ℕ) → is_digit b ≡ true → b ≤ 57
digit-most b e = go (leb 48 b) refl e
  where
    go : (t : Bool) → leb 48 b ≡ t → cond t (leb b 57) false ≡ true → b ≤ 57
    go true h e = leb-true b 57 e
    go false h e = let z : ◌≡◌ {A = ℕ} 0 1 = cc in absurd (omega arith)

pub digit-no-point : (b : ℕ) → is_digit b ≡ true → eqb b 46 ≡ false
digit-no-point b e = ne_eqb b 46 (λ z. omega (arith, z, digit-least b e))

point-no-digit : (b : ℕ) → eqb b 46 ≡ true → is_digit b ≡ false
point-no-digit b e = rw (lt-leb 48 b (omega (arith, eqb-true b 46 e)))

-- ---- the numbers stay bounded

pub ten-pos : (n : ℕ) → 0 < 10 ^ n
ten-pos zero = lit< tt
ten-pos (suc n) = omega (arith, pow-suc 10 n, ten-pos n)

pub bounded-begun : Bounded begun
bounded-begun = record { digits-below = lit< tt; unit-above = lit< tt; unit-within = lit≤ tt }

bounded-digit : (s : Scan) (d : ℕ) → Bounded s → d < 10 → Bounded (with_digit s d)
bounded-digit s d k h = go (ltb s.count 15) s.point
  where
    go : (t p : Bool) → Bounded (cond t
        (record { digits = 10 * s.digits + d; unit = s.unit * cond p 10 1; count = s.count + 1; point = s.point; good = s.good })
        (record { digits = 0; unit = 1; count = 16; point = s.point; good = s.good }))
    go true true = record {
      digits-below = rw (add-one s.count) (omega (arith, pow-suc 10 s.count, k.digits-below));
      unit-above = omega (arith, k.unit-above);
      unit-within = rw (add-one s.count) (omega (arith, pow-suc 10 s.count, k.unit-within));
    }
    go true false = record {
      digits-below = rw (add-one s.count) (omega (arith, pow-suc 10 s.count, k.digits-below));
      unit-above = omega (arith, k.unit-above);
      unit-within = rw (add-one s.count) (omega (arith, pow-suc 10 s.count, k.unit-within));
    }
    go false p = record { digits-below = lit< tt; unit-above = lit< tt; unit-within = lit≤ tt }

bounded-point : (s : Scan) → Bounded s → Bounded (pointed s)
bounded-point s k = go s.point
  where
    go : (p : Bool) → Bounded (cond p (spoiled s) (record { digits = s.digits; unit = s.unit; count = s.count; point = true; good = s.good }))
    go true = record { digits-below = k.digits-below; unit-above = k.unit-above; unit-within = k.unit-within }
    go false = record { digits-below = k.digits-below; unit-above = k.unit-above; unit-within = k.unit-within }

pub bounded-step : (s : Scan) (b : ℕ) → Bounded s → Bounded (scanned_byte s b)
unfolding scanned_byte
bounded-step s b k = go (is_digit b) refl (eqb b 46)
  where
    go : (d : Bool) → is_digit b ≡ d → (p : Bool) → Bounded (cond d (with_digit s (b - 48)) (cond p (pointed s) (spoiled s)))
    go true e p = bounded-digit s (b - 48) k (omega (arith, digit-least b e, digit-most b e))
    go false e true = bounded-point s k
    go false e false = record { digits-below = k.digits-below; unit-above = k.unit-above; unit-within = k.unit-within }

-- by what a byte is
pub step-digit : (s : Scan) (b : ℕ) → is_digit b ≡ true → with_digit s (b - 48) ≡ scanned_byte s b
unfolding scanned_byte
step-digit s b e = rw e

pub step-point : (s : Scan) (b : ℕ) → is_digit b ≡ false → b ≡ 46 → pointed s ≡ scanned_byte s b
unfolding scanned_byte
step-point s b e h = rw (e, eq-eqb b 46 h)

pub step_other : (s : Scan) (b : ℕ) → is_digit b ≡ false → (b ≡ 46 → ⊥) → spoiled s ≡ scanned_byte s b
unfolding scanned_byte
step_other s b e h = rw (e, ne_eqb b 46 h)

pub bounded-all : (u : List ℕ) (s : Scan) → Bounded s → Bounded (scanned s u)
unfolding scanned
bounded-all [] s k = k
bounded-all (b ∷ u) s k = bounded-all u (scanned_byte s b) (bounded-step s b k)

-- below 15 digits there is room for one more
pub room : (s : Scan) → Bounded s → s.count < 15 → (s.digits < 10 ^ 14) × (s.unit ≤ 10 ^ 14)
room s k h =
    let g : s.count ≤ 14 = omega arith in
    let l : 10 ^ s.count ≤ 10 ^ 14 = pow-le-pow_right (zero-lt-suc 9) g in
    (lt_of_lt_of_le k.digits-below l, le_trans k.unit-within l)

pub room-unit : (s : Scan) (f : ℕ) → Bounded s → s.count < 15 → f ≡ cond s.point 10 1 → s.unit * f ≤ 10 ^ 15
room-unit s f k h e = rw e (go s.point)
  where
    go : (p : Bool) → s.unit * cond p 10 1 ≤ 10 ^ 15
    go true = omega (arith, (room s k h).1)
    go false = omega (arith, (room s k h).1)

-- one byte of a text more
pub scanned-more : (l : List ℕ) (i : ℕ) (s t : Scan) → i < length l → t ≡ scanned_byte s (get_or l i 0) → scanned t (drop (i + 1) l) ≡ scanned s (drop i l)
unfolding scanned
scanned-more l i s t h e = rw (add-one i, drop-cons l i 0 h, e)

pub scanned-end : (l : List ℕ) (i : ℕ) (s : Scan) → length l ≤ i → s ≡ scanned s (drop i l)
unfolding scanned
scanned-end l i s h = rw (drop_of_length-le l h)

-- ---- what is left of a text, after a point or before it

abbrev rest_of : Bool → List ℕ → List ℕ
rest_of true u = u
rest_of false u = digits_in u

abbrev places_of : Bool → List ℕ → ℕ
places_of true u = length u
places_of false u = length (fraction_part u)

-- what a text denotes of which s was read, and u is left
unfoldable answer : Bool → Scan → List ℕ → Result Float DecimalFault
answer n s u =
    cond (cond s.good (are_digits (rest_of s.point u)) false)
    (of_digits n (s.count + length (rest_of s.point u)) (value_after s.digits (rest_of s.point u)) (s.unit * 10 ^ places_of s.point u))
    (Err NotNumber)

rest_more : (p : Bool) (b : ℕ) (u : List ℕ) → eqb b 46 ≡ false → rest_of p (b ∷ u) ≡ b ∷ rest_of p u
rest_more true b u e = refl
rest_more false b u e = rw e

units-more : (p : Bool) (unit b : ℕ) (u : List ℕ) → eqb b 46 ≡ false → unit * 10 ^ places_of p (b ∷ u) ≡ unit * cond p 10 1 * 10 ^ places_of p u
units-more true unit b u e = ap (λ (x : ℕ). unit * x) (pow-succ' 10 (length u)) ∙ sym (mul_assoc unit 10 (10 ^ length u))
units-more false unit b u e = rw (e, mul-one unit)

many : (n : Bool) (count digits unit : ℕ) → 15 < count → of_digits n count digits unit ≡ (Err TooLong)
many n count digits unit h = rw (ne_eqb count 0 (λ z. omega arith), lt-ltb 15 count h)

never : (g : Bool) (d : Result Float DecimalFault) → cond (cond g false false) d (Err NotNumber) ≡ (Err NotNumber)
never true d = refl
never false d = refl

answer-digit : (n : Bool) (s : Scan) (b : ℕ) (u : List ℕ) → is_digit b ≡ true → answer n s (b ∷ u) ≡ answer n (with_digit s (b - 48)) u
unfolding answer
answer-digit n s b u e =
    rw (rest_more s.point b u (digit-no-point b e), e, units-more s.point s.unit b u (digit-no-point b e)) (go (ltb s.count 15) refl)
  where
    go : (t : Bool) → ltb s.count 15 ≡ t
        → cond (cond s.good (are_digits (rest_of s.point u)) false)
        (of_digits n (s.count + suc (length (rest_of s.point u))) (value_after (10 * s.digits + (b - 48)) (rest_of s.point u))
        (s.unit * cond s.point 10 1 * 10 ^ places_of s.point u))
        (Err NotNumber)
        ≡ answer n (cond t
        (record { digits = 10 * s.digits + (b - 48); unit = s.unit * cond s.point 10 1; count = s.count + 1; point = s.point; good = s.good })
        (record { digits = 0; unit = 1; count = 16; point = s.point; good = s.good })) u
    go true h =
        let z : s.count + suc (length (rest_of s.point u)) ≡ s.count + 1 + length (rest_of s.point u) = omega arith in
        rw z
    go false h =
        rw (
          many n (s.count + suc (length (rest_of s.point u))) (value_after (10 * s.digits + (b - 48)) (rest_of s.point u))
              (s.unit * cond s.point 10 1 * 10 ^ places_of s.point u) (omega (arith, ltb-false s.count 15 h)),
          many n (16 + length (rest_of s.point u)) (value_after 0 (rest_of s.point u)) (1 * 10 ^ places_of s.point u) (omega arith),
        )

answer-other : (n : Bool) (s : Scan) (b : ℕ) (u : List ℕ) → is_digit b ≡ false → eqb b 46 ≡ false → answer n s (b ∷ u) ≡ answer n (spoiled s) u
unfolding answer
answer-other n s b u e h = rw (rest_more s.point b u h, e) (never s.good _)

answer-point : (n : Bool) (s : Scan) (b : ℕ) (u : List ℕ) → eqb b 46 ≡ true → answer n s (b ∷ u) ≡ answer n (pointed s) u
unfolding answer
answer-point n s b u e = go s.point
  where
    go : (p : Bool) → cond (cond s.good (are_digits (rest_of p (b ∷ u))) false)
        (of_digits n (s.count + length (rest_of p (b ∷ u))) (value_after s.digits (rest_of p (b ∷ u))) (s.unit * 10 ^ places_of p (b ∷ u)))
        (Err NotNumber)
        ≡ answer n (cond p (record { digits = s.digits; unit = s.unit; count = s.count; point = p; good = false })
        (record { digits = s.digits; unit = s.unit; count = s.count; point = true; good = s.good })) u
    go true = rw (point-no-digit b e) (never s.good _)
    go false = rw e

answer-step : (n : Bool) (s : Scan) (b : ℕ) (u : List ℕ) → answer n s (b ∷ u) ≡ answer n (scanned_byte s b) u
unfolding scanned_byte
answer-step n s b u = go (is_digit b) refl (eqb b 46) refl
  where
    go : (d : Bool) → is_digit b ≡ d → (p : Bool) → eqb b 46 ≡ p
        → answer n s (b ∷ u) ≡ answer n (cond d (with_digit s (b - 48)) (cond p (pointed s) (spoiled s))) u
    go true e p h = answer-digit n s b u e
    go false e true h = answer-point n s b u h
    go false e false h = answer-other n s b u e h

answer-all : (n : Bool) (u : List ℕ) (s : Scan) → answer n s u ≡ answer n (scanned s u) []
unfolding scanned
answer-all n [] s = refl
answer-all n (b ∷ u) s = answer-step n s b u ∙ answer-all n u (scanned_byte s b)

answer-begun : (n : Bool) (u : List ℕ) → unsigned_of n u ≡ answer n begun u
unfolding answer unsigned_of
answer-begun n u = rw (zero-plus (length (digits_in u)), one-mul (10 ^ length (fraction_part u)))
  where
    zero-plus : (k : ℕ) → 0 + k ≡ k
    zero-plus k = omega arith

answer-end : (n : Bool) (s : Scan) → answer n s [] ≡ cond s.good (of_digits n s.count s.digits s.unit) (Err NotNumber)
unfolding answer
answer-end n s = go s.point s.good
  where
    go : (p g : Bool) → cond (cond g (are_digits (rest_of p [])) false)
        (of_digits n (s.count + length (rest_of p [])) (value_after s.digits (rest_of p [])) (s.unit * 10 ^ places_of p [])) (Err NotNumber)
        ≡ cond g (of_digits n s.count s.digits s.unit) (Err NotNumber)
    go true true = rw (add-zero s.count, mul-one s.unit)
    go false true = rw (add-zero s.count, mul-one s.unit)
    go true false = refl
    go false false = refl

-- ---- what was read of a whole text

pub ended : (n : Bool) (u : List ℕ) (s : Scan) → s ≡ scanned begun u → cond s.good (of_digits n s.count s.digits s.unit) (Err NotNumber) ≡ unsigned_of n u
ended n u s e = sym (answer-end n s) ∙ ap (λ (t : Scan). answer n t []) e ∙ sym (answer-all n u begun) ∙ sym (answer-begun n u)

pub not_good : (n : Bool) (u : List ℕ) (s : Scan) → s ≡ scanned begun u → s.good ≡ false → (Err NotNumber) ≡ unsigned_of n u
not_good n u s e g = rw g at (ended n u s e)

pub no_digit : (n : Bool) (u : List ℕ) (s : Scan) → s ≡ scanned begun u → s.good ≡ true → s.count ≡ 0 → (Err NotNumber) ≡ unsigned_of n u
no_digit n u s e g z = rw (g, eq-eqb s.count 0 z) at (ended n u s e)

pub too_long : (n : Bool) (u : List ℕ) (s : Scan) → s ≡ scanned begun u → s.good ≡ true → 15 < s.count → (Err TooLong) ≡ unsigned_of n u
too_long n u s e g h = rw (g, many n s.count s.digits s.unit h) at (ended n u s e)

pub number : (n : Bool) (u : List ℕ) (s : Scan) (x : Float) → s ≡ scanned begun u → s.good ≡ true → (s.count ≡ 0 → ⊥) → s.count ≤ 15
    → x ≡ round binary64 n s.digits s.unit → Ok x ≡ unsigned_of n u
number n u s x e g z h r = ap Ok r ∙ (rw (g, ne_eqb s.count 0 z, le-ltb 15 s.count h) at (ended n u s e))

-- no more than 15 digits: a quotient's two numbers
pub short : (u : List ℕ) (s : Scan) → s ≡ scanned begun u → s.count ≤ 15 → (s.digits ≤ 10 ^ 15) × (0 < s.unit) × (s.unit ≤ 10 ^ 15)
short u s e h =
    let k : Bounded s = rw e (bounded-all u begun bounded-begun) in
    let l : 10 ^ s.count ≤ 10 ^ 15 = pow-le-pow_right (zero-lt-suc 9) h in
    (le_trans (le_of_lt k.digits-below) l, k.unit-above, le_trans k.unit-within l)
