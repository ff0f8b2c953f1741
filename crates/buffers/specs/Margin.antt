-- Serves proofs: maps that are 0 near the plate's border.
use Rattle.std.specs.Prelude.{◌≡◌, List, ℕ, ◌+◌, ◌*◌, ◌≤◌, ◌<◌, get_or}
use Rattle.geometry.specs.declared.Head.{Head}

-- a map is 0 at all cells of the plate within k of its border
pub record Margin (p : Head) (k : ℕ) (m : List ℕ) : Type 0 where
  pub west : (x y : ℕ) → x < p.width → y < p.height → x < k → get_or m (y * p.width + x) 0 ≡ 0
  pub east : (x y : ℕ) → x < p.width → y < p.height → p.width ≤ x + k → get_or m (y * p.width + x) 0 ≡ 0
  pub north : (x y : ℕ) → x < p.width → y < p.height → y < k → get_or m (y * p.width + x) 0 ≡ 0
  pub south : (x y : ℕ) → x < p.width → y < p.height → p.height ≤ y + k → get_or m (y * p.width + x) 0 ≡ 0
