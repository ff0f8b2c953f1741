-- To be believed: one level at a time: shape, clearance, medial axis, reconstruction (document 01, "One level at a time"; source 000).
-- Document 01's clearance map is the field's distance map, its axis map the medial axis, its drawing back the reconstruction.
use Rattle.std.specs.Prelude.{◌≡◌, cond, List, map, ℕ, ◌≤◌, ◌<◌, leb, ltb, negsuc}
use Rattle.geometry.specs.declared.Head.{Head}
use Rattle.geometry.specs.Lists.{Lowest, any, select, lowest}
use Rattle.geometry.specs.Plane.{Cell, Ball, dist, neighbours}
use Rattle.geometry.specs.Plate.{at, cells, framed}
use Rattle.geometry.specs.Plunges.{BallWithin}

-- "The shape at level t (1 to 255) is all cells of depth t or more."
abbrev pub Shape : Head → List ℕ → ℕ → Cell → Type 0
Shape p m t c = t ≤ at p m c

-- Clearance of a cell: "distance to the nearest cell not in the shape, off-plate cells included; 0 outside the shape." The property, and the number that has it
abbrev pub IsClearance : Head → List ℕ → ℕ → Cell → ℕ → Type 0
IsClearance p m t c = Lowest (λ o. at p m o < t) (dist p.kind c)

-- the cells of the plate and of the ring about it that are not in the shape
abbrev pub walls : Head → List ℕ → ℕ → List Cell
walls p m t = select (λ o. ltb (at p m o) t) (framed p)

-- the ring's upper left cell, in no shape
abbrev pub corner : Cell
corner = record { col = negsuc 0; row = negsuc 0 }

unfoldable pub clearance : Head → List ℕ → ℕ → Cell → ℕ
clearance p m t c =
    cond (leb t (at p m c)) (lowest (dist p.kind c corner) (map (dist p.kind c) (walls p m t))) 0

-- "The axis map keeps the clearance where no neighbour's is larger, and is 0 elsewhere."
unfoldable pub axis : Head → List ℕ → ℕ → Cell → ℕ
axis p m t c =
    cond (any (λ n. ltb (clearance p m t c) (clearance p m t n)) (neighbours p.kind c)) 0 (clearance p m t c)

-- Drawing back: "a cell is 1 if some cell's number exceeds the distance to it, else 0; balls are clipped to the plate."
abbrev pub Reached : Head → List ℕ → Cell → Type 0
Reached p m c = (o : Cell) × (dist p.kind o c < at p m o)

unfoldable pub reconstructed : Head → List ℕ → Cell → ℕ
reconstructed p m c = cond (any (λ o. ltb (dist p.kind o c) (at p m o)) (cells p)) 1 0

-- source 000: a maximum disk "is one that is not contained in a larger disk which is also contained in" the shape
pub record MaximalBall (p : Head) (m : List ℕ) (t : ℕ) (c : Cell) (r : ℕ) : Type 0 where
  pub contained : (o : Cell) → Ball p.kind c r o → Shape p m t o
  pub alone :
      (d : Cell) (s : ℕ) → ((o : Cell) → Ball p.kind d s o → Shape p m t o) → BallWithin p.kind c r d s → (d ≡ c) × (s ≡ r)
