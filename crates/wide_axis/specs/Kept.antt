-- Serves proofs: what is kept of a map of two bytes a number, and what a row of the pass asks and leaves.
use Rattle.std.specs.Prelude.{List, ℕ, ◌+◌, ◌-◌, ◌*◌, ◌≤◌, length}
use Rattle.geometry.specs.declared.Head.{Head}
use Rattle.geometry.specs.Plane.{cell}
use Rattle.geometry.specs.Plate.{area, at, tabulated}
use Rattle.window.specs.Windows.{window_of}
use Rattle.row_arrays.specs.Rows.{margin, Margins, Row}
use Rattle.row_arrays.specs.Asked.{Held}
use Rattle.wide_rows.specs.Wide.{wide_numbers, WideFilled}
use Rattle.row_filter.specs.Filter.{window_rows, kept}

-- a map's numbers where no neighbour's is larger, 0 elsewhere
abbrev pub kept_map : Head → List ℕ → List ℕ
kept_map p m = tabulated p (λ c. kept p.kind (window_of p m c))

-- row y of a map of two bytes a number, or the row past the last, can be read into an array
pub record WideReadable (p : Head) (y : ℕ) (map row : List ℕ) : Type 0 where
  pub held : Held p
  pub room : 2 * area p ≤ length map
  pub here : y ≤ p.height
  pub margins : Margins p.width row

-- row y: what is kept of it, and the row below it as it was read
pub record KeptRow (p : Head) (y : ℕ) (above mid below' out out' : List ℕ) : Type 0 where
  pub out-is : WideFilled (λ n. kept p.kind (window_rows above mid below' (margin + (n - y * p.width)))) (y * p.width)
      (y * p.width + p.width) out out'
  pub below-is : Row (λ x. at p (wide_numbers out) (cell x (y + 1))) p.width below'
