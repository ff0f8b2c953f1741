-- `in_gap` tries whether a byte is of a comment, whitespace, or begins a comment.
use mathlib.Core.Path.{sym, ◌∙◌}
use Rattle.pgm.proofs.in_gap.Goals as goal

pub returns-then-is_white : goal.returns-then-is_white
returns-then-is_white c = simp (c.if-comment.false, sym c.is_white.ensures ∙ c.if-is_white.true)

pub returns-else-is_white : goal.returns-else-is_white
returns-else-is_white c = simp (c.if-comment.false, sym c.is_white.ensures ∙ c.if-is_white.false)
