-- `crop` moves row after row: the invariant is that the rows before the one reached are cropped, and all that lies past them is as it was.
use Rattle.bounding_box.specs.Boxes.{CroppedRows}
use Rattle.bounding_box.proofs.crop.Given as goal

abbrev pub invariant-loop-y : goal.invariant-loop-y
invariant-loop-y l =
    CroppedRows l.width (record { column = l.left; row = l.top; width = l.count; height = l.height }) l.y l.initial.map l.map
