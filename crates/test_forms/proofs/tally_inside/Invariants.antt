-- At most one is counted for each number passed, and its number is 96 at most.
use Rattle.std.proofs.Common.{◌*◌, ◌≤◌}
use Rattle.test_forms.proofs.tally_inside.Given as goal

abbrev pub invariant-loop-n : goal.invariant-loop-n
invariant-loop-n l = (l.count ≤ l.n) × (l.sum ≤ 96 * l.n)
