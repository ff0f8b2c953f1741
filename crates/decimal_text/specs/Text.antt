-- To be believed: the text of a float, and where it is put.
use Rattle.std.specs.Prelude.{◌≡◌, Bool, false, cond, List, [], ◌∷◌, ◌++◌, ℕ, ◌+◌, ◌/◌, ◌%◌, ◌^◌, ◌≤◌, ◌<◌, max, eqb, length, pos, negsuc, Float}
use Rattle.std.specs.Float.{fin, binary64}
use Rattle.std.specs.Float.Ieee.{le, lt, is_nan, to_bits}
use Rattle.fields.specs.Writing.{spliced}
use Rattle.numerals.specs.Numerals.{digit_text, numeral}
use Rattle.decimal_text.specs.declared.Digits.{Digits}
use Rattle.decimal_text.specs.declared.Parts.{Parts}
use Rattle.decimal_text.specs.Digits.{parts_of, shortest_digits}

-- a whole number, and after a point the fraction's digits, if there are any
abbrev pub text_of : ℕ → Digits → List ℕ
text_of whole d = numeral whole ++ cond (eqb d.count 0) [] (46 ∷ digit_text 10 d.count d.number)

-- "0x" and the bits; "nan"
abbrev pub hexadecimal : ℕ → List ℕ
hexadecimal bits = 48 ∷ 120 ∷ digit_text 16 16 bits

abbrev pub not_number : List ℕ
not_number = 110 ∷ 97 ∷ 110 ∷ []

-- from 2^-10 to below 2^20
abbrev pub in_decimal_range : Float → Bool
in_decimal_range x = cond (le (fin false 1 (negsuc 9)) x) (lt x (fin false 1 (pos 20))) false

-- the parts of the float with these bits, and their shortest decimal
abbrev pub parts_in : ℕ → Parts
parts_in bits = parts_of (bits / 2 ^ 52) (bits % 2 ^ 52)

abbrev pub decimal_text : Parts → List ℕ
decimal_text p = text_of p.whole (shortest_digits p.fraction p.half)

-- a float's shortest decimal in the range, its bits or "nan" outside
unfoldable pub number_text : Float → List ℕ
number_text x =
    cond (is_nan x) not_number (cond (in_decimal_range x) (decimal_text (parts_in (to_bits binary64 x))) (hexadecimal (to_bits binary64 x)))

-- bytes are put at a place of a buffer if they fit; next is the place after them
pub record Put (bs old new : List ℕ) (at next : ℕ) : Type 0 where
  pub fitting : at + length bs ≤ length old → (new ≡ spliced old at bs) × (next ≡ at + length bs)
  pub other : length old < at + length bs → (new ≡ old) × (next ≡ at)
  pub inside : next ≤ max at (length old)
