-- To be believed: cells of the whole plane, their distance, neighbours and balls (document 01, "Plate, kinds and distance"; source 000).
-- Balls near the edge of a plate reach past it, so columns and rows are whole numbers: negative ones lie left of the plate and above it.
use Rattle.std.specs.Prelude.{List, [], ◌∷◌, ◌++◌, map, ℕ, zero, suc, ◌+◌, ◌-◌, ◌≤◌, max, leb, ℤ, pos, negsuc, ◌+ℤ◌, ◌-ℤ◌}
use Rattle.std.proofs.Math.IntN.{suc_ℤ, pred_ℤ}
use Rattle.geometry.specs.declared.Kind.{Kind}
use Rattle.geometry.specs.declared.Kind.TheVariants.{Diamond, Square}
use Rattle.geometry.specs.Lists.{select}

pub record Cell : Type 0 where
  pub col : ℤ
  pub row : ℤ

-- "Columns and rows count from 0, row 0 on top."
abbrev pub cell : ℕ → ℕ → Cell
cell x y = record { col = pos x; row = pos y }

-- the difference of two whole numbers, without its sign; negsuc a is -(a + 1)
abbrev pub gap : ℤ → ℤ → ℕ
gap (pos a) (pos b) = (a - b) + (b - a)
gap (pos a) (negsuc b) = a + b + 1
gap (negsuc a) (pos b) = a + b + 1
gap (negsuc a) (negsuc b) = (a - b) + (b - a)

-- "Kind 4 is the diamond: distance is column difference plus row difference"; "Kind 8 is the square: distance is the larger difference"
abbrev pub dist : Kind → Cell → Cell → ℕ
dist Diamond c o = gap c.col o.col + gap c.row o.row
dist Square c o = max (gap c.col o.col) (gap c.row o.row)

abbrev pub west : Cell → Cell
west c = record { col = pred_ℤ c.col; row = c.row }

abbrev pub east : Cell → Cell
east c = record { col = suc_ℤ c.col; row = c.row }

abbrev pub north : Cell → Cell
north c = record { col = c.col; row = pred_ℤ c.row }

abbrev pub south : Cell → Cell
south c = record { col = c.col; row = suc_ℤ c.row }

-- of the diamond, "neighbours share a side"; of the square, "a side or a corner"
abbrev pub neighbours : Kind → Cell → List Cell
neighbours Diamond c = north c ∷ west c ∷ east c ∷ south c ∷ []
neighbours Square c =
    north (west c) ∷ north c ∷ north (east c) ∷ west c ∷ east c ∷ south (west c) ∷ south c ∷ south (east c) ∷ []

-- "the ball holds all cells at distance at most the reach"
abbrev pub Ball : Kind → Cell → ℕ → Cell → Type 0
Ball kd c r o = dist kd c o ≤ r

-- the cells of some columns and some rows, row after row
abbrev pub crossing : List ℤ → List ℤ → List Cell
crossing cols [] = []
crossing cols (y ∷ ys) = map (λ x. record { col = x; row = y }) cols ++ crossing cols ys

-- the whole numbers from a - r to a + r
abbrev pub span : ℤ → ℕ → List ℤ
span a zero = a ∷ []
span a (suc r) = (a -ℤ pos (suc r)) ∷ span a r ++ ((a +ℤ pos (suc r)) ∷ [])

-- the cells of a ball, as a list
unfoldable pub ball : Kind → Cell → ℕ → List Cell
ball kd c r = select (λ o. leb (dist kd c o) r) (crossing (span c.col r) (span c.row r))
