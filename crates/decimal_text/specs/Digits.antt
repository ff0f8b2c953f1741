-- To be believed: the shortest decimal that tells a float from every other float.
use Rattle.std.specs.Prelude.{Bool, false, cond, ℕ, zero, suc, ◌+◌, ◌-◌, ◌*◌, ◌/◌, ◌%◌, ◌^◌, eqb, ltb}
use Rattle.std.specs.Float.Ieee.Nearest.{closest}
use Rattle.decimal_text.specs.declared.Parts.{Parts}
use Rattle.decimal_text.specs.declared.Digits.{Digits}

-- one, in the parts in which sizes and fractions are measured
abbrev pub one : ℕ
one = 2 ^ 64

-- a float's size in parts, from its exponent field and its digits below the leading one
abbrev pub size_in : ℕ → ℕ → ℕ
size_in field below = (2 ^ 52 + below) * 2 ^ (field - 1011)

-- a quarter of the distance between the floats of a field: a whole number of parts from 2^-10 on
abbrev pub quarter_gap : ℕ → ℕ
quarter_gap field = 2 ^ (field - 1013)

-- half the distance to the nearest other float: below a power of two they stand twice as close
abbrev pub half_gap : ℕ → ℕ → ℕ
half_gap field below = cond (eqb below 0) (quarter_gap field) (2 * quarter_gap field)

unfoldable pub parts_of : ℕ → ℕ → Parts
parts_of field below = record { whole = size_in field below / one; fraction = size_in field below % one; half = half_gap field below }

-- the number of k digits that is nearest to a fraction; a tie goes to the even one
abbrev pub nearest_of : ℕ → ℕ → Digits
nearest_of fraction k = record { number = closest (fraction * 10 ^ k) one; count = k }

-- n over 10^k is nearer to a fraction than half
abbrev pub is_near : ℕ → ℕ → ℕ → ℕ → Bool
is_near fraction half n k =
    cond (ltb (n * one) ((fraction + half) * 10 ^ k)) (ltb (fraction * 10 ^ k) (n * one + half * 10 ^ k)) false

-- the first of k digits, of one more, and so on, that are nearer than half; at most more beyond k
unfoldable pub digits_from : ℕ → ℕ → ℕ → ℕ → Digits
digits_from fraction half k zero = nearest_of fraction k
digits_from fraction half k (suc more) =
    cond (is_near fraction half (nearest_of fraction k).number k) (nearest_of fraction k) (digits_from fraction half (suc k) more)

-- no float from 2^-10 on needs more digits
abbrev pub most_digits : ℕ
most_digits = 19

-- the fewest digits that are nearer than half
unfoldable pub shortest_digits : ℕ → ℕ → Digits
shortest_digits fraction half = digits_from fraction half 0 most_digits
