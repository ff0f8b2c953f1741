-- `is_growth` is true only for the highest, and by its test.
use mathlib.Core.Path.{◌≡◌}
use Prim.Native.Nat.{ℕ}
use native.Mathlib.Omega.{arith}
use Rattle.window_filter.proofs.is_growth.Goals as goal

pub returns-in-Axis : goal.returns-in-Axis
returns-in-Axis c = λ e. let z : ◌≡◌ {A = ℕ} 0 1 = cc in absurd (omega arith)
