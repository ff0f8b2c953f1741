-- The text of a float by its exponent field, what it means, and how long it is.
use mathlib.Core.Path.{◌≡◌, refl, sym, ap, ◌∙◌}
use mathlib.Core.Bool.{Bool, true, false, cond, true≢false}
use Prim.Native.Nat.{ℕ, ◌/◌, ◌%◌, ◌^◌, ◌+◌, ◌≤◌, ◌<◌}
use native.Mathlib.Omega.{arith}
use borrow.Author.Tests.{le-leb, lt-leb, leb-true}
use lib.Dec.{leb, eqb}
use lib.ListN.{length}
use lib.Ieee.{Float, nan, inf, fin, binary64, ne, is_nan, to_bits, fits}
use lib.Ieee.Bits.{of_bits-to_bits}
use lib.Ieee.Compare.{differs_from_itself, nan_differs}
use Rattle.numerals.proofs.Sizes.{numeral-most}
use Rattle.decimal_text.specs.declared.Digits.{Digits}
use Rattle.decimal_text.specs.declared.Parts.{Parts}
use Rattle.decimal_text.specs.Digits.{shortest_digits}
use Rattle.decimal_text.specs.Text.{text_of, hexadecimal, not_number, in_decimal_range, parts_in, decimal_text, number_text}
use Rattle.decimal_text.specs.Shortest.{Shown}
use Rattle.decimal_text.specs.Printing.{in_fields, bits_text}
use Rattle.decimal_text.proofs.Shortest.{proper, digits-shortest, digits-few}
use Rattle.decimal_text.proofs.Sizes.{fraction-room, half_pos, fraction-below}
use Rattle.decimal_text.proofs.Texts.{text-length, tail-most, hexadecimal-length}
use Rattle.decimal_text.proofs.Back.{reads-back}
use Rattle.decimal_text.proofs.Ranges.{nan-out, range-is}

-- ---- by the exponent field

pub bits_below : (bits : ℕ) → bits / 2 ^ 52 < 1013 → bits_text bits ≡ hexadecimal bits
bits_below bits h = rw (lt-leb 1013 (bits / 2 ^ 52) h)

pub bits_above : (bits : ℕ) → 1013 ≤ bits / 2 ^ 52 → 1042 < bits / 2 ^ 52 → bits_text bits ≡ hexadecimal bits
bits_above bits l h = rw (le-leb 1013 (bits / 2 ^ 52) l, lt-leb (bits / 2 ^ 52) 1042 h)

pub bits-within : (bits : ℕ) (parts : Parts) (d : Digits) → 1013 ≤ bits / 2 ^ 52 → bits / 2 ^ 52 ≤ 1042 → parts ≡ parts_in bits
    → d ≡ shortest_digits parts.fraction parts.half → bits_text bits ≡ text_of parts.whole d
bits-within bits parts d l h e f = rw (le-leb 1013 (bits / 2 ^ 52) l, le-leb (bits / 2 ^ 52) 1042 h, f, e)

-- ---- whether a float is a number

pub is-nan : (x : Float) → ne x x ≡ true → is_nan x ≡ true
unfolding is_nan
is-nan x e = ap is_nan (differs_from_itself x (rw e tt))

pub is_number : (x : Float) → ne x x ≡ false → is_nan x ≡ false
unfolding is_nan
is_number nan e = absurd (true≢false (sym nan_differs ∙ e))
is_number (inf s) e = refl
is_number (fin s m g) e = refl

pub number-nan : (x : Float) → ne x x ≡ true → number_text x ≡ not_number
unfolding number_text
number-nan x e = rw (is-nan x e)

pub number-bits : (x : Float) → ne x x ≡ false → number_text x ≡ bits_text (to_bits binary64 x)
unfolding number_text
number-bits x e = rw (is_number x e, range-is x (is_number x e))

-- ---- what the text means

fields-both : (field : ℕ) → in_fields field ≡ true → (1013 ≤ field) × (field ≤ 1042)
fields-both field e = go (leb 1013 field) refl e
  where
    go : (b : Bool) → leb 1013 field ≡ b → cond b (leb field 1042) false ≡ true → (1013 ≤ field) × (field ≤ 1042)
    go true h e = (leb-true 1013 field h, leb-true field 1042 e)
    go false h e = absurd (true≢false (sym e))

range-number : (x : Float) → in_decimal_range x ≡ true → is_nan x ≡ false
range-number x i = go (is_nan x) refl
  where
    go : (b : Bool) → is_nan x ≡ b → b ≡ false
    go false e = refl
    go true e = absurd (true≢false (sym i ∙ nan-out x e))

pub range-fields : (x : Float) → in_decimal_range x ≡ true → (1013 ≤ to_bits binary64 x / 2 ^ 52) × (to_bits binary64 x / 2 ^ 52 ≤ 1042)
range-fields x i = fields-both (to_bits binary64 x / 2 ^ 52) (sym (range-is x (range-number x i)) ∙ i)

pub range-text : (x : Float) → in_decimal_range x ≡ true → number_text x ≡ decimal_text (parts_in (to_bits binary64 x))
unfolding number_text
range-text x i = rw (range-number x i, i)

-- in the range it is the shortest decimal, and reads back
pub shown : (x : Float) → fits binary64 x ≡ true → in_decimal_range x ≡ true → Shown x (parts_in (to_bits binary64 x)) (number_text x)
shown x f i =
    let bits = to_bits binary64 x in
    let field = bits / 2 ^ 52 in
    let below = bits % 2 ^ 52 in
    let p = parts_in bits in
    let d = shortest_digits p.fraction p.half in
    let r = range-fields x i in
    let s = digits-shortest p.fraction p.half (half_pos field below) (fraction-below field below) in
    record {
      digits = d;
      text = range-text x i;
      proper = proper p.fraction p.half d (fraction-room field below r.0 r.1) s;
      shortest = s;
      reads = reads-back bits d r.0 r.1 s ∙ of_bits-to_bits binary64 x (rw f tt);
    }

-- ---- how long it is

text-short : (p : Parts) → length (decimal_text p) ≤ 40
text-short p =
    let d = shortest_digits p.fraction p.half in
    let t = tail-most (cond (eqb d.count 0) 0 (1 + d.count)) d.count refl (digits-few p.fraction p.half) in
    omega (arith, text-length p.whole d, numeral-most p.whole, t)

pub number_text-short : (x : Float) → length (number_text x) ≤ 40
unfolding number_text
number_text-short x = go (is_nan x) (in_decimal_range x)
  where
    go : (a b : Bool) → length (cond a not_number (cond b (decimal_text (parts_in (to_bits binary64 x))) (hexadecimal (to_bits binary64 x)))) ≤ 40
    go true b = omega arith
    go false true = text-short (parts_in (to_bits binary64 x))
    go false false = omega (arith, hexadecimal-length (to_bits binary64 x))
