-- Serves proofs: what the passes of the transform with 16-bit numbers ask and leave.
use Rattle.std.specs.Prelude.{◌≡◌, List, ℕ, ◌*◌, ◌≤◌, length, get_or}
use Rattle.geometry.specs.declared.Head.{Head}
use Rattle.geometry.specs.Plate.{area}
use Rattle.row_arrays.specs.Asked.{Held}

-- a plate whose rows an array holds, a buffer that holds its relief, and one with room for two bytes a cell
pub record WidePlates (p : Head) (m out : List ℕ) : Type 0 where
  pub held : Held p
  pub read : area p ≤ length m
  pub room : 2 * area p ≤ length out

-- all of a buffer but the two bytes of each of the plate's cells is as it was
pub record WideOnly (p : Head) (old new : List ℕ) : Type 0 where
  pub same : length new ≡ length old
  pub surplus : (n : ℕ) → 2 * area p ≤ n → get_or new n 0 ≡ get_or old n 0
