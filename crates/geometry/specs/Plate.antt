-- To be believed: a plate, and maps: a relief, or any other number for each cell, row after row (document 01, "Plate, kinds and distance").
use Rattle.std.specs.Prelude.{◌≡◌, cond, List, [], ◌∷◌, map, ℕ, suc, ◌+◌, ◌*◌, ◌<◌, ltb, ℤ, pos, negsuc, get_or}
use Rattle.geometry.specs.declared.Head.{Head}
use Rattle.geometry.specs.Lists.{gather}
use Rattle.geometry.specs.Plane.{Cell, cell, crossing}

-- the cell lies on the plate
pub record On (p : Head) (c : Cell) : Type 0 where
  pub column : ℕ
  pub row : ℕ
  pub is : c ≡ cell column row
  pub left : column < p.width
  pub upper : row < p.height

-- how many cells the plate has: "width × height"
abbrev pub area : Head → ℕ
area p = p.height * p.width

-- the whole numbers from 0 to n - 1
abbrev pub below : ℕ → List ℤ
below n = gather n 0 (λ i. pos i ∷ [])

-- the cells of the plate, row after row
unfoldable pub cells : Head → List Cell
cells p = crossing (below p.width) (below p.height)

-- the plate with the ring of cells about it
unfoldable pub framed : Head → List Cell
framed p = crossing (negsuc 0 ∷ below (suc p.width)) (negsuc 0 ∷ below (suc p.height))

abbrev entry : Head → List ℕ → ℤ → ℤ → ℕ
entry p m (pos x) (pos y) = cond (ltb x p.width) (cond (ltb y p.height) (get_or m (y * p.width + x) 0) 0) 0
entry p m (pos x) (negsuc y) = 0
entry p m (negsuc x) (pos y) = 0
entry p m (negsuc x) (negsuc y) = 0

-- a map's number at a cell: "a byte of depth for each cell, row after row; surplus bytes are ignored"; "Every cell off the plate has depth 0."
abbrev pub at : Head → List ℕ → Cell → ℕ
at p m c = entry p m c.col c.row

-- "given as maps, a byte for each cell, row after row"
abbrev pub tabulated : Head → (Cell → ℕ) → List ℕ
tabulated p f = map f (cells p)
