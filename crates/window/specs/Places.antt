-- Serves proofs: windows by the places of a flat map, cells counted without negative numbers, and windows as the code compares them.
use Rattle.std.specs.Prelude.{List, [], ◌∷◌, ℕ, ◌+◌, ◌-◌, ◌≤◌, ◌<◌, pos, get_or}
use Rattle.std.proofs.Math.IntN.{pred_ℤ}
use Rattle.geometry.specs.declared.Head.{Head}
use Rattle.geometry.specs.Plane.{Cell}
use Rattle.window.specs.Windows.{in_window}

-- the nine bytes about number n of a flat map with rows of w bytes; they are the window of a cell that does not touch the plate's edge
abbrev pub window_in : List ℕ → ℕ → ℕ → List (List ℕ)
window_in m w n =
    (get_or m (n - w - 1) 0 ∷ get_or m (n - w) 0 ∷ get_or m (n - w + 1) 0 ∷ [])
    ∷ (get_or m (n - 1) 0 ∷ get_or m n 0 ∷ get_or m (n + 1) 0 ∷ [])
    ∷ (get_or m (n + w - 1) 0 ∷ get_or m (n + w) 0 ∷ get_or m (n + w + 1) 0 ∷ [])
    ∷ []

-- the largest number of 16 bits, as a column and a row are
abbrev pub largest_word : ℕ
largest_word = 65535

-- the cell at column i - 1 and row j - 1: a window's cells counted without negative numbers
abbrev pub before : ℕ → ℕ → Cell
before i j = record { col = pred_ℤ (pos i); row = pred_ℤ (pos j) }

-- a row with cells that do not touch the plate's edge
pub record Inner (p : Head) (row : ℕ) : Type 0 where
  pub wide : 3 ≤ p.width
  pub first : 1 ≤ row
  pub last : row + 1 < p.height

-- the middle and the four that share a side with it, as the code compares them; the four corners
abbrev pub cross_of : (ℕ → ℕ → ℕ) → List (List ℕ) → ℕ
cross_of f win = f (f (in_window win 0 1) (in_window win 2 1)) (f (f (in_window win 1 0) (in_window win 1 2)) (in_window win 1 1))

abbrev pub corners_of : (ℕ → ℕ → ℕ) → List (List ℕ) → ℕ
corners_of f win = f (f (in_window win 0 0) (in_window win 0 2)) (f (in_window win 2 0) (in_window win 2 2))
