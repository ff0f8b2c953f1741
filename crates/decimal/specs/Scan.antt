-- Serves proofs: how a number is read, byte by byte.
use Rattle.std.specs.Prelude.{ℕ, ◌+◌, ◌-◌, ◌*◌, ◌^◌, ◌<◌, ◌≤◌, true, false, cond, List, [], ◌∷◌, ◌==◌, nat_lt}
use Rattle.decimal.specs.declared.Scan.{Scan}
use Rattle.decimal.specs.Decimal.{is_digit}

-- neither number has more digits than were read
pub record Bounded (s : Scan) : Type 0 where
  pub digits-below : s.digits < 10 ^ s.count
  pub unit-above : 0 < s.unit
  pub unit-within : s.unit ≤ 10 ^ s.count

-- nothing read yet
abbrev pub begun : Scan
begun = record { digits = 0; unit = 1; count = 0; point = false; good = true }

abbrev pub spoiled : Scan → Scan
spoiled s = record { digits = s.digits; unit = s.unit; count = s.count; point = s.point; good = false }

-- a point: the first is right, a second is not
abbrev pub pointed : Scan → Scan
pointed s = cond s.point (spoiled s) (record { digits = s.digits; unit = s.unit; count = s.count; point = true; good = s.good })

-- one digit more; from the sixteenth on their number is all that is kept
abbrev pub with_digit : Scan → ℕ → Scan
with_digit s d =
    cond (nat_lt s.count 15)
    (record { digits = 10 * s.digits + d; unit = s.unit * cond s.point 10 1; count = s.count + 1; point = s.point; good = s.good })
    (record { digits = 0; unit = 1; count = 16; point = s.point; good = s.good })

-- one byte more
unfoldable pub scanned_byte : Scan → ℕ → Scan
scanned_byte s b = cond (is_digit b) (with_digit s (b - 48)) (cond (b == 46) (pointed s) (spoiled s))

unfoldable pub scanned : Scan → List ℕ → Scan
scanned s [] = s
scanned s (b ∷ bs) = scanned (scanned_byte s b) bs
