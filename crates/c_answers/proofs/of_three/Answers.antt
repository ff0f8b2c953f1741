-- `of_three` takes each place from its own motion.
use Rattle.c_answers.proofs.of_three.Goals as goal

pub returns : goal.returns
returns c =
    simp (
      c.moved.ensures,
      c.of_motion-change.ensures,
      c.of_motion-travel.ensures,
      c.of_motion-sink.ensures,
    )
