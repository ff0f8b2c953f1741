-- To be believed: a cell's window: "three rows of three depths, the cell in the middle", "off-plate cells 0".
use Rattle.std.specs.Prelude.{List, [], ◌∷◌, ℕ, get_or}
use Rattle.geometry.specs.declared.Kind.{Kind}
use Rattle.geometry.specs.declared.Kind.TheVariants.{Diamond, Square}
use Rattle.geometry.specs.declared.Head.{Head}
use Rattle.geometry.specs.Lists.{lowest, highest}
use Rattle.geometry.specs.Plane.{Cell, west, east, north, south}
use Rattle.geometry.specs.Plate.{at}

abbrev pub window_of : Head → List ℕ → Cell → List (List ℕ)
window_of p m c =
    (at p m (north (west c)) ∷ at p m (north c) ∷ at p m (north (east c)) ∷ [])
    ∷ (at p m (west c) ∷ at p m c ∷ at p m (east c) ∷ [])
    ∷ (at p m (south (west c)) ∷ at p m (south c) ∷ at p m (south (east c)) ∷ [])
    ∷ []

-- row j and column i of a window
abbrev pub in_window : List (List ℕ) → ℕ → ℕ → ℕ
in_window win j i = get_or (get_or win j []) i 0

-- what stands at the places of the middle cell's neighbours
abbrev pub around : Kind → List (List ℕ) → List ℕ
around Diamond win = in_window win 0 1 ∷ in_window win 1 0 ∷ in_window win 1 2 ∷ in_window win 2 1 ∷ []
around Square win =
    in_window win 0 0 ∷ in_window win 0 1 ∷ in_window win 0 2 ∷ in_window win 1 0
    ∷ in_window win 1 2 ∷ in_window win 2 0 ∷ in_window win 2 1 ∷ in_window win 2 2 ∷ []

-- the lowest among the middle cell and its neighbours; the highest
abbrev pub window_min : Kind → List (List ℕ) → ℕ
window_min kd win = lowest (in_window win 1 1) (around kd win)

abbrev pub window_max : Kind → List (List ℕ) → ℕ
window_max kd win = highest (in_window win 1 1) (around kd win)
