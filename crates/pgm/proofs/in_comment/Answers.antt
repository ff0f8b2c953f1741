-- `in_comment` tries what ends a comment, or what begins one.
use Rattle.pgm.proofs.in_comment.Goals as goal

pub returns-then-comment : goal.returns-then-comment
returns-then-comment c = simp (c.if-comment.true, c.ends_comment.ensures)

pub returns-else-comment : goal.returns-else-comment
returns-else-comment c = simp c.if-comment.false
