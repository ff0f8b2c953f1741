-- `block_marks` takes mark after mark: the invariant is that if all so far are 0, no place so far is marked.
use mathlib.Core.Path.{◌≡◌}
use Prim.Native.Nat.{◌+◌}
use Rattle.buffers.specs.Runs.{ZeroRun}
use Rattle.residue_marks.proofs.block_marks.Given as goal

abbrev pub invariant-loop-i : goal.invariant-loop-i
invariant-loop-i l = l.all ≡ 0 → ZeroRun l.marks l.from (l.from + l.i)
