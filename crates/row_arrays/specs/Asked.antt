-- Serves proofs: what the functions of row arrays ask of a plate, its map and the arrays.
use Rattle.std.specs.Prelude.{List, ℕ, ◌+◌, ◌≤◌, ◌<◌, length}
use Rattle.geometry.specs.declared.Head.{Head}
use Rattle.geometry.specs.Plate.{area}
use Rattle.row_arrays.specs.Rows.{widest_row, Margins}

-- a plate whose rows an array holds
pub record Held (p : Head) : Type 0 where
  pub wide : 1 ≤ p.width
  pub narrow : p.width ≤ widest_row
  pub tall : 1 ≤ p.height

-- row y of a plate's map can be loaded into an array
pub record Loadable (p : Head) (m : List ℕ) (y : ℕ) (row : List ℕ) : Type 0 where
  pub held : Held p
  pub long : area p ≤ length m
  pub here : y < p.height
  pub margins : Margins p.width row

-- a row of w columns and a spare one
pub record RowPair (w : ℕ) (row spare : List ℕ) : Type 0 where
  pub narrow : w ≤ widest_row
  pub row-margins : Margins w row
  pub spare-margins : Margins w spare

-- a row of w columns can be joined with the row beside and stored from a place on
pub record Mergeable (w from : ℕ) (beside row out : List ℕ) : Type 0 where
  pub room : from + w ≤ length out
  pub narrow : w ≤ widest_row
  pub beside-margins : Margins w beside
  pub row-margins : Margins w row
