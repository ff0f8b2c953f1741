-- `of_motions` tells the motions or the refusal.
use Rattle.sink.proofs.Literals.{literal-0}
use Rattle.c_answers.proofs.of_motions.Goals as goal

pub returns-in-Err : goal.returns-in-Err
returns-in-Err c = simp (c.in-Err.is, literal-0)
