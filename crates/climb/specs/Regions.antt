-- Serves proofs: a rectangle of a plate, outside of which an erosion is 0, taken as a plate of its own.
use Rattle.std.specs.Prelude.{◌≡◌, List, ℕ, ◌+◌, ◌≤◌, pos, ◌+ℤ◌}
use Rattle.geometry.specs.declared.Head.{Head}
use Rattle.geometry.specs.declared.Plunge.{Plunge}
use Rattle.geometry.specs.Plane.{Cell}
use Rattle.geometry.specs.Plate.{at}
use Rattle.theory.specs.Erosion.{erosion}

-- the cell of the plate that a region's cell is, if the region's first cell is in column dx of row dy
abbrev pub translated : ℕ → ℕ → Cell → Cell
translated dx dy c = record { col = c.col +ℤ pos dx; row = c.row +ℤ pos dy }

-- the plunge of the plate that a region's plunge is, if the region holds erosion k
abbrev pub moved : ℕ → ℕ → ℕ → Plunge → Plunge
moved k dx dy q = record { column = q.column + dx; row = q.row + dy; reach = record { 0 = k + q.reach.0 }; depth = q.depth }

-- m' on plate p' is erosion k of m on p, seen from column dx of row dy on; at every cell of the plane, so the erosion is 0 outside of p'
pub record RegionOf (p : Head) (m : List ℕ) (k dx dy : ℕ) (p' : Head) (m' : List ℕ) : Type 0 where
  pub kind : p'.kind ≡ p.kind
  pub wide : dx + p'.width ≤ p.width
  pub high : dy + p'.height ≤ p.height
  pub holds : (c : Cell) → at p' m' c ≡ erosion p m k (translated dx dy c)
