-- `spread` goes from the last row of the box to its first: the invariant is `SpreadRows` from the row reached on.
use Rattle.bounding_box.specs.Boxes.{SpreadRows}
use Rattle.bounding_box.proofs.spread.Given as goal

abbrev pub invariant-loop-y : goal.invariant-loop-y
invariant-loop-y l =
    SpreadRows l.width (record { column = l.left; row = l.top; width = l.count; height = l.rows }) l.y l.initial.map l.map
