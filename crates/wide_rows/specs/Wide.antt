-- Serves proofs: maps of two bytes a number, high byte first, what loops leave in them, and rows of 16-bit numbers.
use Rattle.std.specs.Prelude.{◌≡◌, List, [], ◌∷◌, ℕ, ◌+◌, ◌*◌, ◌/◌, ◌%◌, ◌≤◌, ◌<◌, length, get_or}
use Rattle.geometry.specs.declared.Kind.{Kind}
use Rattle.row_arrays.specs.Rows.{Merged}

-- the bytes of numbers, two for each, high byte first: those of number n at places 2n and 2n + 1
unfoldable pub wide_map : List ℕ → List ℕ
wide_map [] = []
wide_map (n ∷ more) = (n / 256) ∷ (n % 256) ∷ wide_map more

-- the numbers that bytes hold; a byte left over holds none
unfoldable pub wide_numbers : List ℕ → List ℕ
wide_numbers [] = []
wide_numbers (high ∷ []) = []
wide_numbers (high ∷ low ∷ more) = (256 * high + low) ∷ wide_numbers more

-- a 16-bit number of a wall, from which distances are taken off
abbrev pub wide_wall : ℕ
wide_wall = 65535

-- what the steps along a row of 16-bit numbers reach: the columns that are less than this apart
abbrev pub wide_reach : ℕ
wide_reach = 1024

-- from one number up to another the bytes are those of f's; all others are as they were
pub record WideFilled (f : ℕ → ℕ) (from to : ℕ) (old new : List ℕ) : Type 0 where
  pub same : length new ≡ length old
  pub high : (n : ℕ) → from ≤ n → n < to → get_or new (2 * n) 0 ≡ f n / 256
  pub low : (n : ℕ) → from ≤ n → n < to → get_or new (2 * n + 1) 0 ≡ f n % 256
  pub under : (n : ℕ) → n < 2 * from → get_or new n 0 ≡ get_or old n 0
  pub over : (n : ℕ) → 2 * to ≤ n → get_or new n 0 ≡ get_or old n 0

-- the joined row, in its array, in a map of two bytes a number, and in place of the row beside; bytes past it are as they were
pub record WideMerged (kd : Kind) (w from : ℕ) (beside beside' row row' out out' : List ℕ) : Type 0 where
  pub numbers : Merged kd w from beside beside' row row' (wide_numbers out) (wide_numbers out')
  pub same : length out' ≡ length out
  pub over : (n : ℕ) → 2 * (from + w) ≤ n → get_or out' n 0 ≡ get_or out n 0
