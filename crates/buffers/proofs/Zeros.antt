-- Laws of places without a number above 0: none yet, one place more at either end, fewer of them.
use mathlib.Core.Path.{◌≡◌}
use mathlib.Core.List.{List}
use Prim.Native.Nat.{ℕ, ◌+◌, ◌-◌, ◌≤◌, ◌<◌}
use native.Mathlib.Omega.{arith}
use native.Mathlib.Decide.{dec_le}
use lib.ListN.{get_or}
use Rattle.buffers.specs.Runs.{ZeroRun}

module _ (l : List ℕ) where
  pub zeros-none : (from : ℕ) → ZeroRun l from from
  zeros-none from = record { none = λ i a b. absurd (omega arith) }

  -- one place more at the end
  pub zeros-more : (from to : ℕ) → ZeroRun l from to → get_or l to 0 ≡ 0 → ZeroRun l from (to + 1)
  zeros-more from to u e = record { none = λ i a b. go i a b (dec_le to i) }
    where
      go : (i : ℕ) → from ≤ i → i < to + 1 → Dec (to ≤ i) → get_or l i 0 ≡ 0
      go i a b (yes d) = let k : i ≡ to = omega arith in rw k e
      go i a b (no d) = u.none i a (omega arith)

  -- one place more at the start
  pub zeros-before : (from to : ℕ) → 0 < from → ZeroRun l from to → get_or l (from - 1) 0 ≡ 0 → ZeroRun l (from - 1) to
  zeros-before from to h u e = record { none = λ i a b. go i a b (dec_le from i) }
    where
      go : (i : ℕ) → from - 1 ≤ i → i < to → Dec (from ≤ i) → get_or l i 0 ≡ 0
      go i a b (yes d) = u.none i d b
      go i a b (no d) = let k : i ≡ from - 1 = omega arith in rw k e

  -- the places of a smaller stretch
  pub zeros-in : (a b from to : ℕ) → a ≤ from → to ≤ b → ZeroRun l a b → ZeroRun l from to
  zeros-in a b from to h g u = record { none = λ i c d. u.none i (omega arith) (omega arith) }
