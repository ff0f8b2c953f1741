use native.Mathlib.Omega.{arith}
use Rattle.drawing_box.proofs.Boxed.{placeable-fits}
use Rattle.drawing.proofs.Files.{mapped-on, mapped-self, level-first, reach-margin, level-next, level-last}
use Rattle.drawing.proofs.Boxes.{part-plate, part-filterable, filtered-part}
use Rattle.drawing.proofs.draw_reaches.Goals as goal

pub loop-reach-init : goal.loop-reach-init
loop-reach-init c = mapped-self _ _ _ _ (level-first _ _ _ (placeable-fits _ _ c.requires.0) _ _ _ c.requires.2 _ _ c.requires.3 c.place_range.ensures)

pub filter_map-requires : goal.filter_map-requires
filter_map-requires c =
    let inv = c.loop-reach.invariant in
    part-filterable _ _ _ _ c.part_of-part.ensures (part-plate _ _ c.requires.0)
    (omega (arith, c.requires.1, c.place_range.ensures.same, inv.same))
    (omega (arith, c.loop-reach.auto.reach, c.requires.2.small))
    (reach-margin _ _ _ (placeable-fits _ _ c.requires.0) _ _ (omega (arith, c.loop-reach-test.true)) _ _ inv)

pub loop-reach-preserved : goal.loop-reach-preserved
loop-reach-preserved c =
    level-next _ _ _ (placeable-fits _ _ c.requires.0) _ _ _ c.requires.2 _ _ (omega (arith, c.loop-reach-test.true)) _ _ _ _ c.loop-reach.invariant
    (filtered-part _ _ _ _ c.part_of-part.ensures c.filter_map.ensures) c.place_range-in-loop-reach.ensures

pub returns : goal.returns
returns c =
    level-last _ _ _ (placeable-fits _ _ c.requires.0) _ c.loop-reach-test.false _ _
    (mapped-on _ _ _ _ _ _
    (level-first _ _ _ (placeable-fits _ _ c.requires.0) _ _ _ c.requires.2 _ _ c.requires.3 c.place_range.ensures)
    c.loop-reach.invariant)
