-- `scan_length` multiplies two bytes.
use borrow.Author.Rules.{rules}
use native.Mathlib.Omega.{arith}
use Rattle.refusal.proofs.Refusals.{area-fits}
use Rattle.tool_answers.proofs.scan_length.Goals as goal

pub overflow_mul-result : goal.overflow_mul-result
overflow_mul-result c = omega (arith, area-fits c.args.width c.args.height (omega arith) (omega arith))

pub overflow_add-result : goal.overflow_add-result
overflow_add-result c = omega (arith, area-fits c.args.width c.args.height (omega arith) (omega arith))
