-- Serves proofs: a row of cells held in an array, column x at place margin + x, and what the passes along it and from the row beside leave.
use Rattle.std.specs.Prelude.{◌≡◌, ◌⊎◌, List, ◌++◌, ℕ, ◌+◌, ◌-◌, ◌≤◌, ◌<◌, max, pos, length, get_or, take, drop}
use Rattle.geometry.specs.declared.Kind.{Kind}
use Rattle.geometry.specs.declared.Kind.TheVariants.{Diamond, Square}
use Rattle.geometry.specs.Plane.{gap}
use Rattle.buffers.specs.Fill.{Filled}

-- the array's length, and the place of column 0
abbrev pub row_places : ℕ
row_places = 2048

abbrev pub margin : ℕ
margin = 512

-- the most columns of a row: an array holds them with a margin to either side
abbrev pub widest_row : ℕ
widest_row = 1024

-- what the steps along a row of bytes reach: the columns that are less than this apart
abbrev pub row_reach : ℕ
row_reach = 256

-- 0 at all places but those of w columns
pub record Margins (w : ℕ) (row : List ℕ) : Type 0 where
  pub size : length row ≡ row_places
  pub under : (n : ℕ) → n < margin → get_or row n 0 ≡ 0
  pub over : (n : ℕ) → margin + w ≤ n → get_or row n 0 ≡ 0

-- the numbers of f at the columns
pub record Row (f : ℕ → ℕ) (w : ℕ) (row : List ℕ) : Type 0 where
  pub margins : Margins w row
  pub cells : (x : ℕ) → x < w → get_or row (margin + x) 0 ≡ f x

-- the highest of three places, a step apart, less the step
abbrev pub propagated_at : List ℕ → ℕ → ℕ → ℕ
propagated_at row s n = max (get_or row n 0) (max (get_or row (n - s) 0 - s) (get_or row (n + s) 0 - s))

-- at each column the highest of q less the distance, over the columns less than a reach away; 0 at least
pub record Line (q : ℕ → ℕ) (w reach : ℕ) (row : List ℕ) : Type 0 where
  pub margins : Margins w row
  pub bound : (x a : ℕ) → x < w → a < w → gap (pos x) (pos a) < reach → q a ≤ get_or row (margin + x) 0 + gap (pos x) (pos a)
  pub met : (x : ℕ) → x < w → (get_or row (margin + x) 0 ≡ 0) ⊎ ((a : ℕ) × (a < w) × (get_or row (margin + x) 0 + gap (pos x) (pos a) ≤ q a))

-- what was known within one reach is known within another; the spare row is only used
pub record Widened (w from to : ℕ) (row row' spare' : List ℕ) : Type 0 where
  pub line : (q : ℕ → ℕ) → Line q w from row → Line q w to row'
  pub row-margins : Margins w row'
  pub spare-margins : Margins w spare'

-- the highest of the row beside that is one step away from place n
abbrev pub highest_beside : Kind → List ℕ → ℕ → ℕ
highest_beside Diamond beside n = get_or beside n 0
highest_beside Square beside n = max (get_or beside n 0) (max (get_or beside (n - 1) 0) (get_or beside (n + 1) 0))

-- a row's number with the row beside counted too
abbrev pub joined_row : Kind → List ℕ → List ℕ → ℕ → ℕ
joined_row kd beside row n = max (get_or row n 0) (highest_beside kd beside n - 1)

-- an array with w columns of another in the place of its own
abbrev pub with_columns : {A : Type 0} → ℕ → List A → List A → List A
with_columns w row beside = take margin beside ++ (take w (drop margin row) ++ drop w (drop margin beside))

-- the joined row, in its array, in the map, and in place of the row beside
pub record Merged (kd : Kind) (w from : ℕ) (beside beside' row row' out out' : List ℕ) : Type 0 where
  pub row_is : Filled (joined_row kd beside row) margin (margin + w) row row'
  pub beside-is : beside' ≡ row'
  pub out-is : Filled (λ n. joined_row kd beside row (margin + (n - from))) from (from + w) out out'
