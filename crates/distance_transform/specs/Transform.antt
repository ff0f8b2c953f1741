-- Serves proofs: the transform, at each cell the highest of all cells' numbers less their distance; what its passes ask and leave, and what its
-- numbers say at the end.
use Rattle.std.specs.Prelude.{◌≡◌, ◌⊎◌, cond, List, ℕ, ◌+◌, ◌*◌, ◌-◌, ◌≤◌, ◌<◌, ltb, length, get_or}
use Rattle.geometry.specs.declared.Kind.{Kind}
use Rattle.geometry.specs.declared.Head.{Head}
use Rattle.geometry.specs.Plane.{Cell, cell, dist}
use Rattle.geometry.specs.Plate.{area}
use Rattle.theory.specs.Levels.{clearance, reconstructed}
use Rattle.buffers.specs.Fill.{PlateOnly}
use Rattle.row_arrays.specs.declared.Seeds.{Seeds}
use Rattle.row_arrays.specs.declared.Seeds.TheVariants.{Walls, Numbers}
use Rattle.row_arrays.specs.Rows.{margin, Margins}
use Rattle.row_arrays.specs.Start.{wall_seed}
use Rattle.row_arrays.specs.Asked.{Held}
use Rattle.refusal.specs.Sides.{Sides}

-- a plate of fitting sides, and buffers that hold its map and have room for one
pub record Plates (p : Head) (m out : List ℕ) : Type 0 where
  pub sides : Sides p
  pub read : area p ≤ length m
  pub room : area p ≤ length out

-- ---- the passes

-- v is the highest of q less the distance, over the cells of w columns and the rows that Among has; 0 at least
pub record Propagated (kd : Kind) (w : ℕ) (Among : ℕ → Type 0) (q : ℕ → ℕ → ℕ) (x y v : ℕ) : Type 0 where
  pub bound : (a b : ℕ) → a < w → Among b → q a b ≤ v + dist kd (cell x y) (cell a b)
  pub met : (v ≡ 0) ⊎ ((a : ℕ) × (b : ℕ) × (a < w) × Among b × (v + dist kd (cell x y) (cell a b) ≤ q a b))

-- the numbers of row y, in an array; in a map
pub record RowPropagated (kd : Kind) (w : ℕ) (Among : ℕ → Type 0) (q : ℕ → ℕ → ℕ) (y : ℕ) (row : List ℕ) : Type 0 where
  pub margins : Margins w row
  pub cells : (x : ℕ) → x < w → Propagated kd w Among q x y (get_or row (margin + x) 0)

abbrev pub MapPropagated : Kind → ℕ → (ℕ → Type 0) → (ℕ → ℕ → ℕ) → ℕ → List ℕ → Type 0
MapPropagated kd w Among q y out = (x : ℕ) → x < w → Propagated kd w Among q x y (get_or out (y * w + x) 0)

-- what row y asks on the way down, with the row above in an array and steps along a row that reach past every column; on the way up, with
-- the row below
pub record BeforeDown (reach : ℕ) (p : Head) (q : ℕ → ℕ → ℕ) (m : List ℕ) (y : ℕ) (row spare above out : List ℕ) : Type 0 where
  pub held : Held p
  pub reached : p.width ≤ reach
  pub read : area p ≤ length m
  pub room : area p ≤ length out
  pub here : y < p.height
  pub row-margins : Margins p.width row
  pub spare-margins : Margins p.width spare
  pub array : RowPropagated p.kind p.width (λ b. b < y) q (y - 1) above

pub record BeforeUp (p : Head) (y : ℕ) (row below out : List ℕ) : Type 0 where
  pub held : Held p
  pub room : area p ≤ length out
  pub here : y < p.height
  pub row-margins : Margins p.width row
  pub below-margins : Margins p.width below

-- all of a map but row y is as it was
pub record RowOnly (w y : ℕ) (out out' : List ℕ) : Type 0 where
  pub same : length out' ≡ length out
  pub under : (n : ℕ) → n < y * w → get_or out' n 0 ≡ get_or out n 0
  pub over : (n : ℕ) → y * w + w ≤ n → get_or out' n 0 ≡ get_or out n 0

-- row y on the way down: propagated over the rows up to it, from the row above
pub record RowDown (p : Head) (q : ℕ → ℕ → ℕ) (y : ℕ) (row' spare' above' out out' : List ℕ) : Type 0 where
  pub kept : RowOnly p.width y out out'
  pub row-margins : Margins p.width row'
  pub spare-margins : Margins p.width spare'
  pub array : RowPropagated p.kind p.width (λ b. b < y + 1) q y above'
  pub cells : MapPropagated p.kind p.width (λ b. b < y + 1) q y out'

-- row y on the way up: over all rows, from the row below
pub record RowUp (p : Head) (y : ℕ) (row' below below' out out' : List ℕ) : Type 0 where
  pub kept : RowOnly p.width y out out'
  pub row-margins : Margins p.width row'
  pub below-margins : Margins p.width below'
  pub array : (q : ℕ → ℕ → ℕ) → MapPropagated p.kind p.width (λ b. b < y + 1) q y out
      → RowPropagated p.kind p.width (λ b. b < p.height) q (y + 1) below → RowPropagated p.kind p.width (λ b. b < p.height) q y below'
  pub cells : (q : ℕ → ℕ → ℕ) → MapPropagated p.kind p.width (λ b. b < y + 1) q y out
      → RowPropagated p.kind p.width (λ b. b < p.height) q (y + 1) below → MapPropagated p.kind p.width (λ b. b < p.height) q y out'

-- a whole map after the way down, and after the way up
abbrev pub Lowered : Head → (ℕ → ℕ → ℕ) → List ℕ → Type 0
Lowered p q out = (y : ℕ) → y < p.height → MapPropagated p.kind p.width (λ b. b < y + 1) q y out

abbrev pub Whole : Head → (ℕ → ℕ → ℕ) → List ℕ → Type 0
Whole p q out = (y : ℕ) → y < p.height → MapPropagated p.kind p.width (λ b. b < p.height) q y out

pub record Down (p : Head) (q : ℕ → ℕ → ℕ) (out out' : List ℕ) : Type 0 where
  pub kept : PlateOnly p out out'
  pub rows : Lowered p q out'

pub record Up (p : Head) (out out' : List ℕ) : Type 0 where
  pub kept : PlateOnly p out out'
  pub rows : (q : ℕ → ℕ → ℕ) → Lowered p q out → Whole p q out'

-- ---- the end

-- what a cell's number says at the end: its distance to the nearest wall, or whether some ball reaches it
abbrev pub finish : Seeds → ℕ → ℕ
finish (Walls t) v = wall_seed - v
finish Numbers v = cond (ltb 0 v) 1 0

-- walls are those of a level, and a level is 1 or more
abbrev pub IsLevel : Seeds → Type 0
IsLevel (Walls t) = 1 ≤ t
IsLevel Numbers = Unit {0}

-- what the transform gives: clearance from the walls, reconstruction from the numbers
abbrev pub levelled : Head → Seeds → List ℕ → Cell → ℕ
levelled p (Walls t) m = clearance p m t
levelled p Numbers m = reconstructed p m
