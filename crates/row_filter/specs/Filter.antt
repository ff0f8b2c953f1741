-- Serves proofs: a pass over a map in place: three rows in arrays, what is made of a window, what one row asks and leaves.
use Rattle.std.specs.Prelude.{◌≡◌, cond, List, [], ◌∷◌, ℕ, ◌+◌, ◌-◌, ◌*◌, ◌≤◌, ◌<◌, leb, ltb, length, get_or}
use Rattle.geometry.specs.declared.Kind.{Kind}
use Rattle.geometry.specs.declared.Head.{Head}
use Rattle.window.specs.Windows.{in_window, window_max}
use Rattle.geometry.specs.Plate.{area}
use Rattle.refusal.specs.Refusals.{largest_side}
use Rattle.refusal.specs.Sides.{Sides}
use Rattle.buffers.specs.Fill.{Filled}
use Rattle.buffers.specs.Margin.{Margin}
use Rattle.row_arrays.specs.Rows.{margin, row_places, Margins, Row}
use Rattle.row_filter.specs.declared.Leaf.{Leaf}
use Rattle.row_filter.specs.declared.Leaf.TheVariants as v

-- the nine numbers about place n of three rows
abbrev pub window_rows : List ℕ → List ℕ → List ℕ → ℕ → List (List ℕ)
window_rows above mid below n =
    (get_or above (n - 1) 0 ∷ get_or above n 0 ∷ get_or above (n + 1) 0 ∷ [])
    ∷ (get_or mid (n - 1) 0 ∷ get_or mid n 0 ∷ get_or mid (n + 1) 0 ∷ [])
    ∷ (get_or below (n - 1) 0 ∷ get_or below n 0 ∷ get_or below (n + 1) 0 ∷ [])
    ∷ []

-- a window's middle number where none is larger, else 0
abbrev pub kept : Kind → List (List ℕ) → ℕ
kept kd win = cond (leb (window_max kd win) (in_window win 1 1)) (in_window win 1 1) 0

-- what is made of a window
abbrev pub leaf : Leaf → Kind → List (List ℕ) → ℕ
leaf v.Axis kd win = kept kd win
leaf v.Highest kd win = window_max kd win

-- row y of a map, counted from an edge on; 0 in the rows of the lower edge
abbrev pub row_of : Head → ℕ → List ℕ → ℕ → ℕ → ℕ
row_of p e m y x = cond (ltb (y + e) p.height) (get_or m (y * p.width + e + x) 0) 0

-- a map can be filtered between edges: with an edge, it is 0 one further than the edge from its border
pub record Filterable (p : Head) (e : ℕ) (m : List ℕ) : Type 0 where
  pub sides : Sides p
  pub long : area p ≤ length m
  pub edge : e ≤ largest_side
  pub zeros : 1 ≤ e → Margin p (e + 1) m

-- some rows and columns lie between the edges
pub record Between (p : Head) (e : ℕ) : Type 0 where
  pub columns : 2 * e < p.width
  pub rows : 2 * e < p.height

-- with an edge, row y between the edges has its neighbours on all sides in the map; an array is at hand
pub record Growable (p : Head) (e y : ℕ) (row map : List ℕ) : Type 0 where
  pub sides : Sides p
  pub long : area p ≤ length map
  pub edge : 1 ≤ e
  pub columns : 2 * e < p.width
  pub here : y + e < p.height
  pub size : length row ≡ row_places

-- row y of a map, or the first row of the lower edge, can be read between edges into an array
pub record Readable (p : Head) (e : ℕ) (m : List ℕ) (y : ℕ) (row : List ℕ) : Type 0 where
  pub sides : Sides p
  pub long : area p ≤ length m
  pub some : 2 * e < p.width
  pub here : y + e ≤ p.height
  pub margins : Margins (p.width - 2 * e) row

-- row y: what is made of its windows, between the edges, and the row below it as it was read
pub record FilteredRow (p : Head) (lf : Leaf) (e y : ℕ) (above mid below' map map' : List ℕ) : Type 0 where
  pub map_is : Filled (λ n. leaf lf p.kind (window_rows above mid below' (margin + (n - (y * p.width + e))))) (y * p.width + e)
      (y * p.width + e + (p.width - 2 * e)) map map'
  pub below-is : Row (row_of p e map (y + 1)) (p.width - 2 * e) below'
