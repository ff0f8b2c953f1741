-- Serves proofs: a box of a plate outside of which a map is 0, what finding it leaves in arrays, a box copied or a map cropped to it, and a box spread out.
use Rattle.std.specs.Prelude.{◌≡◌, List, ℕ, ◌+◌, ◌*◌, ◌≤◌, ◌<◌, max, length, get_or}
use Rattle.geometry.specs.declared.Head.{Head}
use Rattle.geometry.specs.Plate.{area}
use Rattle.refusal.specs.Refusals.{largest_side}
use Rattle.refusal.specs.Sides.{Sides}
use Rattle.buffers.specs.Fill.{Filled}
use Rattle.buffers.specs.Runs.{ZeroRun}
use Rattle.bounding_box.specs.declared.Bounds.{Bounds}
use Rattle.bounding_box.specs.declared.Span.{Span}

-- ---- boxes

-- a box of a plate, with some columns and some rows
pub record Within (p : Head) (b : Bounds) : Type 0 where
  pub wide : 1 ≤ b.width
  pub tall : 1 ≤ b.height
  pub across : b.column + b.width ≤ p.width
  pub down : b.row + b.height ≤ p.height

-- a map is 0 at all cells of the plate outside of a box
pub record BareOutside (p : Head) (b : Bounds) (m : List ℕ) : Type 0 where
  pub west : (x y : ℕ) → x < p.width → y < p.height → x < b.column → get_or m (y * p.width + x) 0 ≡ 0
  pub east : (x y : ℕ) → x < p.width → y < p.height → b.column + b.width ≤ x → get_or m (y * p.width + x) 0 ≡ 0
  pub north : (x y : ℕ) → x < p.width → y < p.height → y < b.row → get_or m (y * p.width + x) 0 ≡ 0
  pub south : (x y : ℕ) → x < p.width → y < p.height → b.row + b.height ≤ y → get_or m (y * p.width + x) 0 ≡ 0

-- the numbers of the first rows of a box of one map stand at the front of another, row after row; what lies past them there is as it was
pub record CopiedRows (w : ℕ) (b : Bounds) (rows : ℕ) (src old new : List ℕ) : Type 0 where
  pub same : length new ≡ length old
  pub holds : (x y : ℕ) → x < b.width → y < rows → get_or new (y * b.width + x) 0 ≡ get_or src ((y + b.row) * w + (x + b.column)) 0
  pub surplus : (n : ℕ) → rows * b.width ≤ n → get_or new n 0 ≡ get_or old n 0

-- all rows of a box; and at the front of the map that they are of
abbrev pub Copied : ℕ → Bounds → List ℕ → List ℕ → List ℕ → Type 0
Copied w b = CopiedRows w b b.height

abbrev pub CroppedRows : ℕ → Bounds → ℕ → List ℕ → List ℕ → Type 0
CroppedRows w b rows old = CopiedRows w b rows old old

abbrev pub Cropped : ℕ → Bounds → List ℕ → List ℕ → Type 0
Cropped w b old = Copied w b old old

-- a box, no wider than a plate may be, of a map with rows of w bytes
pub record Croppable (w : ℕ) (b : Bounds) (m : List ℕ) : Type 0 where
  pub wide : 1 ≤ b.width
  pub narrow : b.width ≤ largest_side
  pub across : b.column + b.width ≤ w
  pub down : (b.row + b.height) * w ≤ length m

-- such a box, and another map with room for it
pub record Copyable (w : ℕ) (b : Bounds) (src dst : List ℕ) : Type 0 where
  pub box : Croppable w b src
  pub room : b.height * b.width ≤ length dst

-- the rows of a box from one on, which stood one after the other at the map's start, stand in their place among rows of w bytes, with 0 beside
-- them; all else is as it was
pub record SpreadRows (w : ℕ) (b : Bounds) (from : ℕ) (old new : List ℕ) : Type 0 where
  pub same : length new ≡ length old
  pub holds : (x y : ℕ) → x < b.width → from ≤ y → y < b.height → get_or new ((y + b.row) * w + (x + b.column)) 0 ≡ get_or old (y * b.width + x) 0
  pub west : (x y : ℕ) → x < b.column → from ≤ y → y < b.height → get_or new ((y + b.row) * w + x) 0 ≡ 0
  pub east : (x y : ℕ) → b.column + b.width ≤ x → x < w → from ≤ y → y < b.height → get_or new ((y + b.row) * w + x) 0 ≡ 0
  pub under : (n : ℕ) → n < (from + b.row) * w → get_or new n 0 ≡ get_or old n 0
  pub over : (n : ℕ) → (b.height + b.row) * w ≤ n → get_or new n 0 ≡ get_or old n 0

-- all of them, on a plate that is 0 about the box; what lies past the plate is as it was
pub record Spread (p : Head) (b : Bounds) (old new : List ℕ) : Type 0 where
  pub same : length new ≡ length old
  pub holds : (x y : ℕ) → x < b.width → y < b.height → get_or new ((y + b.row) * p.width + (x + b.column)) 0 ≡ get_or old (y * b.width + x) 0
  pub bare : BareOutside p b new
  pub surplus : (n : ℕ) → area p ≤ n → get_or new n 0 ≡ get_or old n 0

-- ---- joined columns and rows

-- a stretch of a map can be joined to numbers of columns
pub record Joinable (start w : ℕ) (m columns : List ℕ) : Type 0 where
  pub room : start + w ≤ length m
  pub narrow : w ≤ largest_side
  pub size : length columns ≡ largest_side

-- each column has the higher of its number and the stretch's; no number of the stretch is above `all`
pub record Joined (start w : ℕ) (m old new : List ℕ) (all : ℕ) : Type 0 where
  pub columns : Filled (λ x. max (get_or old x 0) (get_or m (start + x) 0)) 0 w old new
  pub bound : (x : ℕ) → x < w → get_or m (start + x) 0 ≤ all

-- a plate's map, and arrays for its columns and its rows
pub record Plates (p : Head) (m columns rows : List ℕ) : Type 0 where
  pub sides : Sides p
  pub room : area p ≤ length m
  pub across : length columns ≡ largest_side
  pub down : length rows ≡ largest_side

-- no number of a map's first rows is above that of its column or that of its row
pub record Topped (w height : ℕ) (m columns rows : List ℕ) : Type 0 where
  pub across : (x y : ℕ) → x < w → y < height → get_or m (y * w + x) 0 ≤ get_or columns x 0
  pub down : (x y : ℕ) → x < w → y < height → get_or m (y * w + x) 0 ≤ get_or rows y 0

-- ---- the places of an array with a number above 0

-- r is the first of n places with a number above 0; n if there is none
pub record FirstSet (n : ℕ) (l : List ℕ) (r : ℕ) : Type 0 where
  pub within : r ≤ n
  pub under : ZeroRun l 0 r
  pub set : r < n → 1 ≤ get_or l r 0

-- a span of the first n places, with some of them, holds them all
pub record Spans (n : ℕ) (s : Span) (l : List ℕ) : Type 0 where
  pub some : 1 ≤ s.number
  pub within : s.first + s.number ≤ n
  pub under : ZeroRun l 0 s.first
  pub over : ZeroRun l (s.first + s.number) n
