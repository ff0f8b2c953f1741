-- Serves proofs: the places and the columns that a loop goes over, and places with zeros.
use Rattle.std.specs.Prelude.{◌≡◌, List, ℕ, ◌+◌, ◌≤◌, ◌<◌, length, get_or}
use Rattle.geometry.specs.declared.Head.{Head}

-- a run of places, from one up to another, of a map with rows of w bytes: the nine bytes about each lie in the map
pub record Interior (w from to : ℕ) (m : List ℕ) : Type 0 where
  pub under : w + 1 ≤ from
  pub ordered : from ≤ to
  pub over : to + w + 1 ≤ length m

-- columns of one row of a plate, from one up to another
pub record Columns (p : Head) (row from to : ℕ) : Type 0 where
  pub ordered : from ≤ to
  pub within : to ≤ p.width
  pub here : row < p.height

-- no number from one place up to another is above 0
pub record ZeroRun (l : List ℕ) (from to : ℕ) : Type 0 where
  pub none : (i : ℕ) → from ≤ i → i < to → get_or l i 0 ≡ 0
