-- `of_verdict` tells a verdict in numbers.
use mathlib.Core.Path.{sym, ap}
use Rattle.c_answers.specs.Told.{of_verdict}
use Rattle.c_answers.proofs.of_verdict.Goals as goal

pub returns-in-Ok : goal.returns-in-Ok
returns-in-Ok c = sym (ap of_verdict c.in-Ok.is)
