-- `count_marks` counts stretch after stretch: the invariant is the tally up to the place reached.
use mathlib.Core.Path.{◌≡◌}
use Prim.Native.Nat.{◌-◌, ◌≤◌}
use Rattle.residue_marks.specs.Marks.{tally}
use Rattle.residue_marks.proofs.count_marks.Given as goal

abbrev pub invariant-loop-i : goal.invariant-loop-i
invariant-loop-i l = (l.i ≤ l.number) × (l.count ≡ tally l.marks l.i)

abbrev pub decreases-loop-i : goal.decreases-loop-i
decreases-loop-i l = l.number - l.i
