-- `cells_of` is the product of two sides of 16 bits.
use mathlib.Core.Path.{refl}
use native.Mathlib.Omega.{arith}
use borrow.Author.Rules.{rules}
use Rattle.refusal.proofs.Refusals.{area-fits}
use Rattle.test_wide.proofs.cells_of.Goals as goal

pub overflow_mul-result : goal.overflow_mul-result
overflow_mul-result c = let given = c.args in omega (arith, area-fits given.head.width given.head.height (omega arith) (omega arith))

pub returns : goal.returns
returns c = let given = c.args in (refl, area-fits given.head.width given.head.height (omega arith) (omega arith))
