-- Serves proofs: the lowest near a cell: the next erosion is made of it.
use Rattle.std.specs.Prelude.{map, ℕ}
use Rattle.geometry.specs.declared.Kind.{Kind}
use Rattle.geometry.specs.Lists.{lowest}
use Rattle.geometry.specs.Plane.{Cell, neighbours}

-- the lowest of f among the cell and its neighbours
abbrev pub lowest_near : Kind → (Cell → ℕ) → Cell → ℕ
lowest_near kd f c = lowest (f c) (map f (neighbours kd c))
