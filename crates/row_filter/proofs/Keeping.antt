-- A number is kept where it is not exceeded, by the test that was made.
use mathlib.Core.Path.{◌≡◌}
use mathlib.Core.Bool.{cond}
use Prim.Native.Nat.{ℕ, ◌≤◌, ◌<◌}
use borrow.Author.Tests.{le-leb, lt-leb}
use lib.Dec.{leb}

pub keeps : (v m n : ℕ) → v ≡ m → v ≤ n → n ≡ cond (leb m n) n 0
keeps v m n e h = rw (← e, le-leb v n h)

pub drops : (v m n : ℕ) → v ≡ m → n < v → 0 ≡ cond (leb m n) n 0
drops v m n e h = rw (← e, lt-leb v n h)
