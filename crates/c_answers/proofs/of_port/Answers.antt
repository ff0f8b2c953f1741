-- `of_port` tells the verdict as the other calls do.
use Rattle.c_answers.proofs.of_port.Goals as goal

pub returns : goal.returns
returns c = rw c.of_verdict-told.ensures
