-- Serves proofs: what drawing asks of a file, boxes of a plate that hold its balls, and its plunges on such a box.
use Rattle.std.specs.Prelude.{◌≡◌, true, List, ◌∷◌, [], ℕ, ◌+◌, ◌-◌, ◌≤◌, ◌<◌, min, max, length}
use Rattle.geometry.specs.declared.Head.{Head}
use Rattle.geometry.specs.declared.Plunge.{Plunge}
use Rattle.geometry.specs.Lists.{gather}
use Rattle.geometry.specs.Plunges.{fits_plate}
use Rattle.refusal.specs.Sides.{Sides}
use Rattle.bounding_box.specs.declared.Bounds.{Bounds}
use Rattle.bounding_box.specs.Boxes.{Within}
use Rattle.fields.specs.Fields.{place}
use Rattle.reading.specs.Reading.{head_in, nth_plunge}
use Rattle.drawing_box.specs.declared.Drawing.{Drawing}
use Rattle.drawing_box.specs.declared.Extent.{Extent}

-- a file that holds n plunges after its head, each with its ball on the plate
pub record Drawable (p : Head) (n : ℕ) (f : List ℕ) : Type 0 where
  pub head : p ≡ head_in f
  pub room : place p n ≤ length f
  pub fits : (i : ℕ) → i < n → fits_plate p (nth_plunge f i) ≡ true

-- ---- boxes

-- a plunge's ball lies in some columns and rows, from the first up to one past the last
pub record Spanned (left right top bottom : ℕ) (q : Plunge) : Type 0 where
  pub west : left + q.reach.0 ≤ q.column
  pub east : q.column + q.reach.0 < right
  pub north : top + q.reach.0 ≤ q.row
  pub south : q.row + q.reach.0 < bottom

-- in those of an extent; in those of a box
abbrev pub Reached : Extent → Plunge → Type 0
Reached e = Spanned e.left e.right e.top e.bottom

abbrev pub Held : Bounds → Plunge → Type 0
Held b = Spanned b.column (b.column + b.width) b.row (b.row + b.height)

-- an extent with one ball more
abbrev pub widened_by : Extent → Plunge → Extent
widened_by e q =
    record {
      left = min e.left (q.column - q.reach.0);
      right = max e.right (q.column + q.reach.0 + 1);
      top = min e.top (q.row - q.reach.0);
      bottom = max e.bottom (q.row + q.reach.0 + 1);
    }

-- an extent on a plate that has the balls of a file's plunges from one up to another
pub record Extended (p : Head) (f : List ℕ) (from to : ℕ) (e : Extent) : Type 0 where
  pub across : e.right ≤ p.width
  pub down : e.bottom ≤ p.height
  pub balls : (i : ℕ) → from ≤ i → i < to → Reached e (nth_plunge f i)

-- a box of a plate that holds the balls of a file's first n plunges
pub record Holding (p : Head) (b : Bounds) (n : ℕ) (f : List ℕ) : Type 0 where
  pub within : Within p b
  pub balls : (i : ℕ) → i < n → Held b (nth_plunge f i)

-- what is drawn, of a file that can be drawn
pub record Placeable (d : Drawing) (f : List ℕ) : Type 0 where
  pub sides : Sides d.head
  pub file : Drawable d.head d.count f
  pub holding : Holding d.head d.part d.count f

-- ---- a box as a plate of its own

abbrev pub part_of : Drawing → Head
part_of d = record { kind = d.head.kind; width = d.part.width; height = d.part.height }

-- a plunge whose column and row are counted from a box's
abbrev pub boxed : Bounds → Plunge → Plunge
boxed b q = record { column = q.column - b.column; row = q.row - b.row; reach = q.reach; depth = q.depth }

-- plunge number i of a file on the box, from 0; all of them
abbrev pub plunge_in : Drawing → List ℕ → ℕ → Plunge
plunge_in d f i = boxed d.part (nth_plunge f i)

abbrev pub plunges_on : Drawing → List ℕ → List Plunge
plunges_on d f = gather d.count 0 (λ i. plunge_in d f i ∷ [])
