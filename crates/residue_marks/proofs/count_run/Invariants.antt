-- `count_run` counts place after place: the invariant is the tally up to the place reached.
use mathlib.Core.Path.{◌≡◌}
use Prim.Native.Nat.{◌+◌, ◌≤◌}
use Rattle.residue_marks.specs.Marks.{tally}
use Rattle.residue_marks.proofs.count_run.Given as goal

abbrev pub invariant-loop-i : goal.invariant-loop-i
invariant-loop-i l = (l.count + l.from ≤ l.i) × (l.count + tally l.marks l.from ≡ tally l.marks l.i)
