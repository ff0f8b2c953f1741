-- Serves proofs: what the search for the nearest wall asks, and what its parts find.
use Rattle.std.specs.Prelude.{◌≡◌, ◌⊎◌, List, ℕ, ◌+◌, ◌-◌, ◌≤◌, ◌<◌, min, max, length, get_or}
use Rattle.geometry.specs.declared.Kind.{Kind}
use Rattle.geometry.specs.declared.Kind.TheVariants.{Diamond, Square}
use Rattle.geometry.specs.declared.Head.{Head}
use Rattle.geometry.specs.Plate.{area}

-- a level, and a cell of a plate whose map is held
pub record Searchable (p : Head) (m : List ℕ) (t x y : ℕ) : Type 0 where
  pub level : 1 ≤ t
  pub left : x < p.width
  pub upper : y < p.height
  pub long : area p ≤ length m

-- ---- what the parts of the search find

-- how far the nearest cell off a plate of two sides lies from a cell on it
abbrev pub edge_distance : ℕ → ℕ → ℕ → ℕ → ℕ
edge_distance w h x y = min (min (x + 1) (w - x)) (min (y + 1) (h - y))

-- i places from a place, to either side, no number is below t; to one side, one is
abbrev pub Free : List ℕ → ℕ → ℕ → ℕ → Type 0
Free m t place i = (t ≤ get_or m (place - i) 0) × (t ≤ get_or m (place + i) 0)

abbrev pub Wall : List ℕ → ℕ → ℕ → ℕ → Type 0
Wall m t place i = (get_or m (place - i) 0 < t) ⊎ (get_or m (place + i) 0 < t)

-- r is how far from a place the first number below t stands, or the limit if none stands nearer
pub record RowGap (m : List ℕ) (t place limit r : ℕ) : Type 0 where
  pub most : r ≤ limit
  pub free : (i : ℕ) → i < r → Free m t place i
  pub wall : r < limit → Wall m t place r

-- the distance of two cells that are i columns and j rows apart
abbrev pub apart : Kind → ℕ → ℕ → ℕ
apart Diamond i j = i + j
apart Square i j = max i j

-- r is the distance to the nearest number below t in a row that is j rows away, or best if none is nearer
pub record InRow (kd : Kind) (m : List ℕ) (t place j best r : ℕ) : Type 0 where
  pub most : r ≤ best
  pub free : (i : ℕ) → apart kd i j < r → Free m t place i
  pub wall : r < best → (i : ℕ) × (apart kd i j ≡ r) × Wall m t place i
