-- The product of two bytes fits in two bytes.
use Prim.Native.Nat.{◌*◌, ◌≤◌}
use native.Mathlib.Omega.{arith}
use native.Mathlib.Nat.{mul-le-mul}
use Rattle.test_tables.proofs.entry_of.Goals as goal

pub overflow_mul-result : goal.overflow_mul-result
overflow_mul-result c =
    let s : c.args.step ≤ 255 = omega arith in
    let p : c.args.step * c.args.i ≤ 255 * 255 = mul-le-mul {m₂ = 255} s (omega arith) in omega arith
