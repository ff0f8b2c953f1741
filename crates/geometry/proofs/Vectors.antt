-- Definitions by their values: the neighbours of a cell, a ball, the cells of a small plate, what its map says on it and off it, a common beginning.
use mathlib.Core.Path.{◌≡◌, refl}
use mathlib.Core.List.{[], ◌∷◌, map}
use lib.IntN.{pos, negsuc}
use Rattle.geometry.specs.declared.Kind.TheVariants.{Diamond, Square}
use Rattle.geometry.specs.declared.Head.{Head}
use Rattle.geometry.specs.Lists.{common}
use Rattle.geometry.specs.Plane.{Cell, cell, neighbours, ball}
use Rattle.geometry.specs.Plate.{at, cells}

-- "neighbours share a side"
pub beside-diamond : neighbours Diamond (cell 1 1) ≡ cell 1 0 ∷ cell 0 1 ∷ cell 2 1 ∷ cell 1 2 ∷ []
beside-diamond = refl

-- "neighbours share a side or a corner"
pub beside-square :
    neighbours Square (cell 1 1)
    ≡ cell 0 0 ∷ cell 1 0 ∷ cell 2 0 ∷ cell 0 1 ∷ cell 2 1 ∷ cell 0 2 ∷ cell 1 2 ∷ cell 2 2 ∷ []
beside-square = refl

-- the cell above the plate's upper left cell, and the cell left of it
abbrev above : Cell
above = record { col = pos 0; row = negsuc 0 }

abbrev left : Cell
left = record { col = negsuc 0; row = pos 0 }

-- "the ball holds all cells at distance at most the reach"
pub ball-of-one : ball Diamond (cell 0 0) 1 ≡ above ∷ left ∷ cell 0 0 ∷ cell 1 0 ∷ cell 0 1 ∷ []
unfolding ball
ball-of-one = refl

-- 3 wide, 2 high
abbrev plate : Head
plate = record { kind = Square; width = 3; height = 2 }

-- "row after row"
pub row-after-row : cells plate ≡ cell 0 0 ∷ cell 1 0 ∷ cell 2 0 ∷ cell 0 1 ∷ cell 1 1 ∷ cell 2 1 ∷ []
unfolding cells
row-after-row = refl

-- "surplus bytes of a longer buffer are ignored"; "Every cell off the plate has depth 0."
pub off-plate :
    map (at plate (1 ∷ 2 ∷ 3 ∷ 4 ∷ 5 ∷ 6 ∷ 7 ∷ 8 ∷ 9 ∷ []))
    (cell 0 0 ∷ cell 2 0 ∷ cell 0 1 ∷ cell 2 1 ∷ cell 3 0 ∷ cell 0 2 ∷ above ∷ left ∷ [])
    ≡ 1 ∷ 3 ∷ 4 ∷ 6 ∷ 0 ∷ 0 ∷ 0 ∷ 0 ∷ []
off-plate = refl

-- "the first byte unlike": after two that are alike, and at the end of the shorter list
pub unlike-third : common (7 ∷ 8 ∷ 9 ∷ []) (7 ∷ 8 ∷ 6 ∷ []) ≡ 2
unlike-third = refl

pub unlike-end : common (7 ∷ 8 ∷ []) (7 ∷ 8 ∷ 6 ∷ []) ≡ 2
unlike-end = refl
