-- `change_or_stay` changes exactly where it is told to.
use Rattle.motion_floats.proofs.change_or_stay.Goals as goal

pub returns-then-changed : goal.returns-then-changed
returns-then-changed c = simp (c.if-changed.true, c.change_width.ensures)
