-- `cells_of` multiplies the sides.
use native.Mathlib.Omega.{arith}
use Rattle.refusal.proofs.Refusals.{area-fits}
use borrow.Author.Rules.{rules}
use Rattle.test_file_records.proofs.cells_of.Goals as goal

pub overflow_mul-result : goal.overflow_mul-result
overflow_mul-result c =
    omega (
      arith,
      area-fits c.args.record.width c.args.record.height (omega arith)
          (omega arith),
    )
