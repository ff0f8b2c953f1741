-- `draw_into` draws reach by reach on a box of zeros; spread out, the last is the drawing.
use Rattle.drawing_box.proofs.Boxed.{placeable}
use Rattle.drawing.proofs.Boxes.{spread-drawn}
use Rattle.drawing.proofs.draw_into.Goals as goal

pub returns : goal.returns
returns c =
    let on-box = placeable _ _ _ _ c.requires.0 c.requires.1 c.box_of-part.ensures in
    spread-drawn _ _ on-box _ _ _ _ c.zero_run.ensures c.draw_reaches.ensures c.spread.ensures
