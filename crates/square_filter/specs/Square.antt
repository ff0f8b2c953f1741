-- Serves proofs: a pass in place for the highest of a square: the highest of nine is that of three rows' highest of three.
use Rattle.std.specs.Prelude.{◌≡◌, List, ℕ, ◌+◌, ◌-◌, ◌≤◌, ◌<◌, max, length, get_or}
use Rattle.refusal.specs.Refusals.{largest_side}
use Rattle.buffers.specs.Fill.{Filled}
use Rattle.row_arrays.specs.Rows.{row_places}

-- the highest of three numbers side by side, the second at place n
abbrev pub highest_three : List ℕ → ℕ → ℕ
highest_three m n = max (max (get_or m (n - 1) 0) (get_or m (n + 1) 0)) (get_or m n 0)

-- a stretch of a row of a map that is w wide has neighbours on all sides
pub record Squarable (from w count : ℕ) (above map : List ℕ) : Type 0 where
  pub some : 1 ≤ w
  pub narrow : count ≤ largest_side
  pub size : length above ≡ row_places
  pub room : from + w + count < length map

-- the stretch has the highest of the threes above, of its own and of those below; these stand where those above stood
pub record SquaredRun (from w count : ℕ) (above mid above' map map' : List ℕ) : Type 0 where
  pub above-is : Filled (λ i. highest_three map (from + w + i)) 0 count above above'
  pub map_is : Filled (λ n. max (max (get_or above (n - from) 0) (get_or mid (n - from) 0)) (highest_three map (n + w))) from (from + count) map map'
