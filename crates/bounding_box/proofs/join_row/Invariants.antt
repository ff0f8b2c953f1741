-- `join_row` joins column after column: the invariant is `Joined` up to the column reached.
use Prim.Native.Nat.{◌≤◌}
use Rattle.bounding_box.specs.Boxes.{Joined}
use Rattle.bounding_box.proofs.join_row.Given as goal

abbrev pub invariant-loop-x : goal.invariant-loop-x
invariant-loop-x l = (l.x ≤ l.width) × Joined l.start l.x l.map l.initial.columns l.columns l.all
