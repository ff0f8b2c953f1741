-- `is_far` tries both sides.
use native.Mathlib.Omega.{arith}
use borrow.Author.Tests.{lt-leb}
use Rattle.decimal_text.proofs.Shortest.{far-test}
use Rattle.decimal_text.proofs.is_far.Goals as goal

pub returns-then-margin-rest : goal.returns-then-margin-rest
returns-then-margin-rest c = far-test c.args.rest c.args.margin (omega arith) c.if-margin-rest.true

pub returns-else-margin-rest : goal.returns-else-margin-rest
returns-else-margin-rest c = simp (lt-leb c.args.margin c.args.rest c.if-margin-rest.false)
