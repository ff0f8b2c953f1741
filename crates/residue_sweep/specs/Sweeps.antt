-- Serves proofs: sweeps over places of two erosions: what they ask of their buffers, the marks and the erosion that they write.
use Rattle.std.specs.Prelude.{◌≡◌, List, [], ◌∷◌, ℕ, ◌+◌, ◌-◌, ◌%◌, ◌/◌, ◌≤◌, ◌<◌, length, get_or}
use Rattle.geometry.specs.declared.Kind.{Kind}
use Rattle.geometry.specs.declared.Head.{Head}
use Rattle.geometry.specs.Plane.{Cell, cell}
use Rattle.geometry.specs.Plate.{area, at}
use Rattle.window.specs.Windows.{window_min, window_max}
use Rattle.window.specs.Places.{window_in}
use Rattle.theory.specs.Near.{lowest_near}
use Rattle.theory.specs.Erosion.{highest_near}
use Rattle.buffers.specs.Fill.{Filled}
use Rattle.buffers.specs.Runs.{Interior}
use Rattle.residue_marks.specs.Marks.{mark_places, mark_of}
use Rattle.residue_sweep.specs.declared.Places.{Places}

-- the cell of a place of a map with rows of w bytes
abbrev pub place_cell : ℕ → ℕ → Cell
place_cell w n = cell (n % w) (n / w)

-- places of two maps with the nine bytes about each in the second, and an array for their marks
pub record RunBuffers (w : ℕ) (s : Places) (prev cur marks : List ℕ) : Type 0 where
  pub interior : Interior w s.start (s.start + s.number) cur
  pub short : s.number < mark_places
  pub before : s.start + s.number ≤ length prev
  pub size : length marks ≡ mark_places

-- places of a map, as many from one on of another with those beside them, and an array for their marks
pub record EdgeBuffers (s : Places) (beside : ℕ) (prev cur marks : List ℕ) : Type 0 where
  pub some : 1 ≤ beside
  pub after : beside + s.number < length cur
  pub short : s.number < mark_places
  pub before : s.start + s.number ≤ length prev
  pub size : length marks ≡ mark_places

-- places of two erosions of a plate, and an array for their marks
pub record SweepBuffers (p : Head) (s : Places) (prev cur marks : List ℕ) : Type 0 where
  pub wide : 1 ≤ p.width
  pub within : s.start + s.number ≤ area p
  pub short : s.number < mark_places
  pub before : area p ≤ length prev
  pub after : area p ≤ length cur
  pub size : length marks ≡ mark_places

-- the lowest and the highest of a map about place n: of its nine bytes, and of its cell and its neighbours
abbrev pub low_in : Kind → ℕ → List ℕ → ℕ → ℕ
low_in kd w m n = window_min kd (window_in m w n)

abbrev pub high_in : Kind → ℕ → List ℕ → ℕ → ℕ
high_in kd w m n = window_max kd (window_in m w n)

-- the highest about place n of a row along the border, where a map is 0: of three bytes of the row beside it, which begins at a place
abbrev pub beside_window : List ℕ → ℕ → List (List ℕ)
beside_window m j = (0 ∷ 0 ∷ 0 ∷ []) ∷ (0 ∷ 0 ∷ 0 ∷ []) ∷ (get_or m (j - 1) 0 ∷ get_or m j 0 ∷ get_or m (j + 1) 0 ∷ []) ∷ []

abbrev pub high_beside : Kind → ℕ → ℕ → List ℕ → ℕ → ℕ
high_beside kd beside start m n = window_max kd (beside_window m (beside + (n - start)))

abbrev pub low_near : Head → List ℕ → ℕ → ℕ
low_near p m n = lowest_near p.kind (at p m) (place_cell p.width n)

abbrev pub high_near : Head → List ℕ → ℕ → ℕ
high_near p m n = highest_near p.kind (at p m) (place_cell p.width n)

-- the marks of places from one on, of erosions of which the second's highest about a place is known
abbrev pub marks_of : (ℕ → ℕ) → ℕ → List ℕ → ℕ → ℕ
marks_of high start prev i = mark_of (get_or prev (start + i) 0) (high (start + i))

-- a sweep over some places from one on: the lowest about each is written, none above `top`, which is 0 where all are, and each is marked, none
-- above `deepest`
pub record Sweep (low high : ℕ → ℕ) (start number : ℕ) (prev prev' marks marks' : List ℕ) (deepest top : ℕ) : Type 0 where
  pub next : Filled low start (start + number) prev prev'
  pub marked : Filled (marks_of high start prev) 0 number marks marks'
  pub deep : (i : ℕ) → i < number → get_or marks' i 0 ≤ deepest
  pub under : (n : ℕ) → start ≤ n → n < start + number → get_or prev' n 0 ≤ top
  pub bare : ((n : ℕ) → start ≤ n → n < start + number → get_or prev' n 0 ≡ 0) → top ≡ 0
