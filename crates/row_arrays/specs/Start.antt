-- Serves proofs: the numbers that a plate's rows start from, before they propagate: seeds of a map, and what the cells off the plate bring
-- to its border.
use Rattle.std.specs.Prelude.{Bool, true, cond, List, ℕ, ◌+◌, ◌-◌, max, eqb, ltb}
use Rattle.geometry.specs.declared.Head.{Head}
use Rattle.geometry.specs.Plane.{cell}
use Rattle.geometry.specs.Plate.{at}
use Rattle.row_arrays.specs.declared.Seeds.{Seeds}
use Rattle.row_arrays.specs.declared.Seeds.TheVariants.{Walls, Numbers}

-- a byte's number of a wall, from which distances are taken off
abbrev pub wall_seed : ℕ
wall_seed = 255

-- a number that stands for the walls of level t: the top at a wall, else 0
abbrev pub wall_number : ℕ → ℕ → ℕ → ℕ
wall_number top t n = cond (ltb n t) top 0

-- a cell's own number at the start: that of a wall, or the map's own
abbrev pub seed : Seeds → ℕ → ℕ
seed (Walls t) n = wall_number wall_seed t n
seed Numbers n = n

abbrev pub on_border : Head → ℕ → ℕ → Bool
on_border p x y =
    cond (eqb x 0) true (cond (eqb (x + 1) p.width) true (cond (eqb y 0) true (eqb (y + 1) p.height)))

-- the seeds of a map's numbers with the cells off the plate counted too: what they have, less the one step to the plate's border
abbrev pub start : Head → (ℕ → ℕ) → List ℕ → ℕ → ℕ → ℕ
start p f m x y = max (f (at p m (cell x y))) (cond (on_border p x y) (f 0 - 1) 0)
