-- `copy_box` copies rows of the whole width at once, else row after row: the invariant is that the rows before the one reached are copied.
use Rattle.bounding_box.specs.Boxes.{CopiedRows}
use Rattle.bounding_box.proofs.copy_box.Given as goal

abbrev pub invariant-loop-y : goal.invariant-loop-y
invariant-loop-y l =
    CopiedRows l.width (record { column = l.left; row = l.top; width = l.count; height = l.height }) l.y l.src l.initial.dst l.dst
