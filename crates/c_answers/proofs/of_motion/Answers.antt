-- `of_motion` puts a motion's millimetres in their places.
use Rattle.sink.proofs.Literals.{literal-0}
use Rattle.c_answers.proofs.of_motion.Goals as goal

pub returns-in-Change : goal.returns-in-Change
returns-in-Change c = simp (c.moved.ensures, c.in-Change.is, literal-0)

pub returns-in-Stay : goal.returns-in-Stay
returns-in-Stay c = simp (c.moved-in-Stay.ensures, c.in-Stay.is, literal-0)

pub returns-in-Travel : goal.returns-in-Travel
returns-in-Travel c = simp (c.moved-in-Travel.ensures, c.in-Travel.is, literal-0)

pub returns-in-Sink : goal.returns-in-Sink
returns-in-Sink c = simp (c.moved-in-Sink.ensures, c.in-Sink.is, literal-0)
