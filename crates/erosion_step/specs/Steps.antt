-- Serves proofs: what one erosion step asks of its buffers and does to them.
use Rattle.std.specs.Prelude.{◌≡◌, List, ℕ, ◌+◌, ◌-◌, ◌*◌, ◌≤◌, ◌<◌, length, get_or}
use Rattle.geometry.specs.declared.Kind.{Kind}
use Rattle.geometry.specs.declared.Head.{Head}
use Rattle.geometry.specs.Plate.{area, at}
use Rattle.window.specs.Windows.{window_min}
use Rattle.window.specs.Places.{largest_word, window_in}
use Rattle.theory.specs.Near.{lowest_near}
use Rattle.buffers.specs.Fill.{Filled, Mapped}
use Rattle.buffers.specs.Margin.{Margin}

-- erosions are numbered by 16 bits: twice such a number is a length
abbrev pub step_numbers : ℕ
step_numbers = largest_word + 1

-- what the step from erosion k asks: a source that is 0 within k of the border, a target that is 0 within k - 1 of it
pub record StepBuffers (p : Head) (k : ℕ) (src dst : List ℕ) : Type 0 where
  pub number : k < step_numbers
  pub wide : 1 ≤ p.width
  pub read : area p ≤ length src
  pub room : area p ≤ length dst
  pub source : Margin p k src
  pub target : Margin p (k - 1) dst

-- what the first erosion asks where a cell lies inside the border
pub record InsideBuffers (p : Head) (src dst : List ℕ) : Type 0 where
  pub wide : 3 ≤ p.width
  pub high : 3 ≤ p.height
  pub read : area p ≤ length src
  pub room : area p ≤ length dst

-- places from one up to another have the lowest of their nine bytes, and r is no lower than any of them
pub record Eroded (kd : Kind) (src : List ℕ) (w from to : ℕ) (old new : List ℕ) (r : ℕ) : Type 0 where
  pub filled : Filled (λ n. window_min kd (window_in src w n)) from to old new
  pub top : (n : ℕ) → from ≤ n → n < to → get_or new n 0 ≤ r

-- in the rows before one the first and the last number are 0; all others of h rows of w, and what lies past them, are as they were
pub record SidesZeroed (w h rows : ℕ) (old new : List ℕ) : Type 0 where
  pub same : length new ≡ length old
  pub first : (y : ℕ) → y < rows → get_or new (y * w) 0 ≡ 0
  pub last : (y : ℕ) → y < rows → get_or new (y * w + w - 1) 0 ≡ 0
  pub inside : (x y : ℕ) → 1 ≤ x → x + 1 < w → y < h → get_or new (y * w + x) 0 ≡ get_or old (y * w + x) 0
  pub surplus : (n : ℕ) → h * w ≤ n → get_or new n 0 ≡ get_or old n 0

-- the buffer has, at each cell, the lowest of the source among the cell and its neighbours; r is no lower than any
pub record Stepped (p : Head) (src old new : List ℕ) (r : ℕ) : Type 0 where
  pub map : Mapped p (lowest_near p.kind (at p src)) old new
  pub top : (x y : ℕ) → x < p.width → y < p.height → get_or new (y * p.width + x) 0 ≤ r
