-- Serves proofs: a pass in place for the highest of a diamond: the row below a stretch is read as the stretch is written.
use Rattle.std.specs.Prelude.{◌≡◌, List, [], ◌∷◌, ℕ, ◌+◌, ◌-◌, ◌≤◌, length, get_or}
use Rattle.geometry.specs.declared.Kind.TheVariants.{Diamond}
use Rattle.window.specs.Windows.{window_max}
use Rattle.refusal.specs.Refusals.{largest_side}
use Rattle.buffers.specs.Fill.{Filled}
use Rattle.row_arrays.specs.Rows.{margin, row_places}

-- the middle and the four beside it, about place n of two rows, over a number; zeros in the corners
abbrev pub cross_window : List ℕ → List ℕ → ℕ → ℕ → List (List ℕ)
cross_window above mid n under =
    (0 ∷ get_or above n 0 ∷ 0 ∷ []) ∷ (get_or mid (n - 1) 0 ∷ get_or mid n 0 ∷ get_or mid (n + 1) 0 ∷ []) ∷ (0 ∷ under ∷ 0 ∷ []) ∷ []

-- a stretch of a row of a map that is w wide has a row below it
pub record Crossable (from w count : ℕ) (below map : List ℕ) : Type 0 where
  pub some : 1 ≤ w
  pub narrow : count ≤ largest_side
  pub size : length below ≡ row_places
  pub room : from + w + count ≤ length map

-- the stretch has the highest of its windows, and the row below it stands in an array
pub record CrossedRun (from w count : ℕ) (above mid below below' map map' : List ℕ) : Type 0 where
  pub below-is : Filled (λ n. get_or map (from + w + (n - margin)) 0) margin (margin + count) below below'
  pub map_is : Filled (λ n. window_max Diamond (cross_window above mid (margin + (n - from)) (get_or map (n + w) 0))) from (from + count) map map'
