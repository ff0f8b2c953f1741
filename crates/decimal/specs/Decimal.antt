-- To be believed: what decimal text denotes: an optional '-', then digits with at most one point among them, at least one digit in all, nothing else.
use Rattle.std.specs.Prelude.{ℕ, ◌+◌, ◌-◌, ◌*◌, ◌^◌, Bool, true, false, cond, List, [], ◌∷◌, ◌++◌, length, drop, ◌==◌, nat_le, nat_lt, slice_index, Result, Ok, Err, Float}
use Rattle.std.specs.Float.{binary64}
use Rattle.std.specs.Float.Ieee.{round}
use Rattle.decimal.specs.declared.DecimalFault.{DecimalFault}
use Rattle.decimal.specs.declared.DecimalFault.TheVariants.{NotNumber, TooLong}

-- '0' to '9'
abbrev pub is_digit : ℕ → Bool
is_digit b = cond (nat_le 48 b) (nat_le b 57) false

abbrev pub are_digits : List ℕ → Bool
are_digits [] = true
are_digits (b ∷ bs) = cond (is_digit b) (are_digits bs) false

-- digits as one number, where they follow the digits of n
abbrev pub value_after : ℕ → List ℕ → ℕ
value_after n [] = n
value_after n (b ∷ bs) = value_after (10 * n + (b - 48)) bs

-- what stands before the first point '.', and what stands after it
abbrev pub whole_part : List ℕ → List ℕ
whole_part [] = []
whole_part (b ∷ bs) = cond (b == 46) [] (b ∷ whole_part bs)

abbrev pub fraction_part : List ℕ → List ℕ
fraction_part [] = []
fraction_part (b ∷ bs) = cond (b == 46) bs (fraction_part bs)

-- both parts, joined: digits and nothing else, in a number
abbrev pub digits_in : List ℕ → List ℕ
digits_in u = whole_part u ++ fraction_part u

-- count digits that make one number, over a unit: the nearest float, if there is a digit and there are no more than 15
abbrev pub of_digits : Bool → ℕ → ℕ → ℕ → Result Float DecimalFault
of_digits negative count digits unit =
    cond (count == 0) (Err NotNumber) (cond (nat_lt 15 count) (Err TooLong) (Ok (round binary64 negative digits unit)))

-- a number without its sign: its digits as one number, over ten for each place after the point
unfoldable pub unsigned_of : Bool → List ℕ → Result Float DecimalFault
unsigned_of negative u =
    cond (are_digits (digits_in u))
    (of_digits negative (length (digits_in u)) (value_after 0 (digits_in u)) (10 ^ length (fraction_part u)))
    (Err NotNumber)

-- with a '-' before it, or without
abbrev pub decimal_of : List ℕ → Result Float DecimalFault
decimal_of s = cond (slice_index s 0 == 45) (unsigned_of true (drop 1 s)) (unsigned_of false s)
