-- `check_number` tries whether there is a digit, and the range.
use mathlib.Core.Path.{sym, ◌∙◌}
use borrow.Author.Tests.{eq-eqb, ne_eqb}
use Rattle.pgm.proofs.check_number.Goals as goal

pub returns-then-n : goal.returns-then-n
returns-then-n c = simp (eq-eqb _ _ c.if-n.true)

pub returns-then-in_range : goal.returns-then-in_range
returns-then-in_range c = simp (ne_eqb _ _ c.if-n.false, sym c.in_range.ensures ∙ c.if-in_range.true)

pub returns : goal.returns
returns c = simp (ne_eqb _ _ c.if-n.false, sym c.in_range.ensures ∙ c.if-in_range.false)
