-- `run_clearances`: twice a plate's cells can be counted.
use native.Mathlib.Omega.{arith}
use borrow.Author.Rules.{rules}
use Rattle.test_wide.proofs.run_clearances.Goals as goal

pub overflow_mul-cells_of : goal.overflow_mul-cells_of
overflow_mul-cells_of c = omega (arith, c.cells_of.ensures.1)
