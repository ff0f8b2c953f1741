-- To be believed: the opening of a field and the end field, byte by byte, and what is tried of them (document 01, "Plunge file, drawing, tidying" and
-- "Refusals in their order").
use Rattle.std.specs.Prelude.{Bool, false, cond, not, List, [], ◌∷◌, ℕ, ◌+◌, ◌*◌, ltb, eqb, length, get_or}
use Rattle.refusal.specs.Refusals.{Trial, trial}
use Rattle.fields.specs.Fields.{opening, end_bytes}

-- a number of the bytes at two places, "high byte first"
abbrev pub pair_at : List ℕ → ℕ → ℕ → ℕ
pair_at f i j = 256 * get_or f i 0 + get_or f j 0

-- "a one-byte tag, a two-byte length (high byte first)"
abbrev pub length_at : List ℕ → ℕ → ℕ
length_at f at = pair_at f (at + 1) (at + 2)

-- a field with this tag and this length begins at a place
abbrev pub opens : ℕ → ℕ → List ℕ → ℕ → Bool
opens tag size f at = cond (eqb (get_or f at 0) tag) (eqb (length_at f at) size) false

-- the number in an end field
abbrev pub number_at : List ℕ → ℕ → ℕ
number_at f at = 65536 * pair_at f (at + 3) (at + 4) + pair_at f (at + 5) (at + 6)

-- "Per field: fewer than three bytes left is 6; tag or length not allowed here is 7; content cut is 6; then content"
abbrev pub open_trials : List ℕ → ℕ → Bool → ℕ → List Trial
open_trials f at allowed size =
    trial (ltb (length f) (at + opening)) 6 at ∷ trial (not allowed) 7 at ∷ trial (ltb (length f) (at + (opening + size))) 6 at ∷ []

-- "10: end number is not the number of plunges", "11: bytes after the end field"
abbrev pub end_trials : List ℕ → ℕ → ℕ → List Trial
end_trials f at n = trial (not (eqb (number_at f at) n)) 10 at ∷ trial (ltb (at + end_bytes) (length f)) 11 (at + end_bytes) ∷ []
