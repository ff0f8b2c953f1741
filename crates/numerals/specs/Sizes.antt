-- Serves proofs: how many decimal digits a number has.
use Rattle.std.specs.Prelude.{ℕ, ◌^◌, ◌≤◌, ◌<◌}

-- n has k decimal digits, and 0 has one
pub record IsSize (n k : ℕ) : Type 0 where
  pub some : 0 < k
  pub enough : n < 10 ^ k
  pub all : (j : ℕ) → 0 < j → j < k → 10 ^ j ≤ n
