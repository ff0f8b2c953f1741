-- Serves proofs: what a loop leaves in a buffer, place by place, and a buffer that starts with a map.
use Rattle.std.specs.Prelude.{◌≡◌, List, ℕ, ◌+◌, ◌*◌, ◌≤◌, ◌<◌, length, get_or}
use Rattle.geometry.specs.declared.Head.{Head}
use Rattle.geometry.specs.Plane.{Cell, cell}
use Rattle.geometry.specs.Plate.{area}

-- from one place up to another the numbers are those of f; all others are as they were
pub record Filled (f : ℕ → ℕ) (from to : ℕ) (old new : List ℕ) : Type 0 where
  pub same : length new ≡ length old
  pub inside : (n : ℕ) → from ≤ n → n < to → get_or new n 0 ≡ f n
  pub under : (n : ℕ) → n < from → get_or new n 0 ≡ get_or old n 0
  pub over : (n : ℕ) → to ≤ n → get_or new n 0 ≡ get_or old n 0

-- the buffer starts with the map of f, row after row, and what lies past the map is as it was
pub record Mapped (p : Head) (f : Cell → ℕ) (old new : List ℕ) : Type 0 where
  pub same : length new ≡ length old
  pub holds : (x y : ℕ) → x < p.width → y < p.height → get_or new (y * p.width + x) 0 ≡ f (cell x y)
  pub surplus : (n : ℕ) → area p ≤ n → get_or new n 0 ≡ get_or old n 0

-- all of a buffer but the plate's bytes is as it was
pub record PlateOnly (p : Head) (old new : List ℕ) : Type 0 where
  pub same : length new ≡ length old
  pub surplus : (n : ℕ) → area p ≤ n → get_or new n 0 ≡ get_or old n 0
