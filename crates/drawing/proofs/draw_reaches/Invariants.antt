-- `draw_reaches` goes from the largest reach down: the invariant is that the map on the box is drawn by the balls, each narrower by the reach
use Rattle.buffers.specs.Fill.{Mapped}
use Rattle.drawing_box.specs.Boxed.{part_of, plunges_on}
use Rattle.drawing.specs.Reaches.{drawn_from}
use Rattle.drawing.proofs.draw_reaches.Given as goal

abbrev pub invariant-loop-reach : goal.invariant-loop-reach
invariant-loop-reach l = Mapped (part_of l.d) (drawn_from l.d.head.kind l.reach (plunges_on l.d l.file)) l.initial.map l.map
