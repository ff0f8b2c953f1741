-- Each sum is at most 65,536 for each byte passed.
use Rattle.std.proofs.Common.{◌*◌, ◌≤◌}
use Rattle.test_io.proofs.sums_of.Given as goal

abbrev pub invariant-loop-i : goal.invariant-loop-i
invariant-loop-i l = (l.plain ≤ 65536 * l.i) × (l.sum ≤ 65536 * l.i)
