-- Serves proofs: marks that numbers above 0 leave, pass by pass, and what the passes ask.
use Rattle.std.specs.Prelude.{◌≡◌, cond, List, ℕ, ◌+◌, ◌*◌, ◌-◌, ◌≤◌, ◌<◌, ltb, length, get_or}
use Rattle.geometry.specs.declared.Kind.{Kind}
use Rattle.geometry.specs.declared.Head.{Head}
use Rattle.geometry.specs.Plate.{area}
use Rattle.buffers.specs.Fill.{Filled, PlateOnly}
use Rattle.row_arrays.specs.Rows.{margin, Margins, joined_row}
use Rattle.row_arrays.specs.Start.{start}
use Rattle.row_arrays.specs.Asked.{Held}
use Rattle.wide_rows.specs.Wide.{wide_numbers}
use Rattle.distance_transform.specs.Transform.{Propagated, RowPropagated}

-- the mark that a number leaves: 1 where it is above 0, else the mark that was there
abbrev pub marked : ℕ → ℕ → ℕ
marked v mark = cond (ltb 0 v) 1 mark

-- the numbers that a plate's map of two bytes a number starts from
abbrev pub own : Head → List ℕ → ℕ → ℕ → ℕ
own p m = start p (λ n. n) (wide_numbers m)

-- a plate whose rows an array holds, its map of two bytes a number, and room for a mark for each cell
pub record MarkPlates (p : Head) (m out : List ℕ) : Type 0 where
  pub held : Held p
  pub read : 2 * area p ≤ length m
  pub room : area p ≤ length out

-- row y can be marked, with the row beside in an array
pub record Markable (p : Head) (m : List ℕ) (y : ℕ) (row spare beside out : List ℕ) : Type 0 where
  pub plates : MarkPlates p m out
  pub here : y < p.height
  pub row-margins : Margins p.width row
  pub spare-margins : Margins p.width spare
  pub beside-margins : Margins p.width beside

-- row y marked by its own numbers, propagated along the row and joined with the row beside, whose place they take
pub record RowMarked (p : Head) (m : List ℕ) (y : ℕ) (row' spare' beside beside' out out' : List ℕ) : Type 0 where
  pub along : List ℕ
  pub along-is : RowPropagated p.kind p.width (λ b. b ≡ y) (own p m) y along
  pub row_is : Filled (joined_row p.kind beside along) margin (margin + p.width) along row'
  pub spare-margins : Margins p.width spare'
  pub beside-is : beside' ≡ row'
  pub marks : Filled (λ n. marked (get_or row' (margin + (n - y * p.width)) 0) (get_or out n 0)) (y * p.width) (y * p.width + p.width) out out'

-- row y has the marks of numbers that are propagated over the rows that Among has
abbrev pub Marks : Kind → ℕ → (ℕ → Type 0) → (ℕ → ℕ → ℕ) → ℕ → List ℕ → Type 0
Marks kd w Among q y out = (x : ℕ) → x < w → (v : ℕ) × (get_or out (y * w + x) 0 ≡ marked v 0) × Propagated kd w Among q x y v

-- a map of zeros has the marks of no rows; on the way down each row gets those of the rows up to it, on the way up those of all
pub record MarkedDown (p : Head) (q : ℕ → ℕ → ℕ) (out out' : List ℕ) : Type 0 where
  pub kept : PlateOnly p out out'
  pub rows : ((y : ℕ) → y < p.height → Marks p.kind p.width (λ b. b < 0) q y out) → (y : ℕ) → y < p.height
      → Marks p.kind p.width (λ b. b < y + 1) q y out'

pub record MarkedUp (p : Head) (q : ℕ → ℕ → ℕ) (out out' : List ℕ) : Type 0 where
  pub kept : PlateOnly p out out'
  pub rows : ((y : ℕ) → y < p.height → Marks p.kind p.width (λ b. b < y + 1) q y out) → (y : ℕ) → y < p.height
      → Marks p.kind p.width (λ b. b < p.height) q y out'
