-- Serves proofs: how the digits of a fraction are found, and the text of a float by its bits.
use Rattle.std.specs.Prelude.{Bool, false, cond, List, ℕ, ◌-◌, ◌/◌, ◌^◌, min, leb}
use Rattle.decimal_text.specs.Digits.{one}
use Rattle.decimal_text.specs.Text.{decimal_text, hexadecimal, parts_in}

-- no number of so many digits is within the margin, where rest is left over
abbrev pub is_far : ℕ → ℕ → Bool
is_far rest margin = cond (leb margin rest) (leb margin (one - rest)) false

-- a number cut at the largest of 64 bits; no rest is as far from both sides
abbrev pub capped : ℕ → ℕ
capped n = min n (one - 1)

-- the exponent fields of the floats from 2^-10 to below 2^20
abbrev pub in_fields : ℕ → Bool
in_fields field = cond (leb 1013 field) (leb field 1042) false

-- for the float with these bits: its shortest decimal in the range, the bits outside
abbrev pub bits_text : ℕ → List ℕ
bits_text bits = cond (in_fields (bits / 2 ^ 52)) (decimal_text (parts_in bits)) (hexadecimal bits)
