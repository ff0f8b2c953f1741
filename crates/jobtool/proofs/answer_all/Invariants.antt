-- `answer_all` goes from input to input; no status is above 2.
use Rattle.std.proofs.Common.{◌≤◌}
use Rattle.jobtool.proofs.answer_all.Given as goal

abbrev pub invariant-loop-which : goal.invariant-loop-which
invariant-loop-which l = l.status ≤ 2
