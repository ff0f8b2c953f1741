-- `place_one` raises the number at the plunge's centre, which lies on the box, or leaves the map.
use native.Mathlib.Omega.{arith}
use Rattle.drawing.proofs.Files.{raised-one-told}
use Rattle.drawing.proofs.Boxes.{centre-told}
use Rattle.drawing.proofs.place_one.Goals as goal

pub bounds-map-n : goal.bounds-map-n
bounds-map-n c =
    omega (arith, c.requires.2, centre-told _ _ c.requires.0 _ c.requires.1 _ c.plunge_in-q.ensures)

pub bounds-map-n-then-q-reach : goal.bounds-map-n-then-q-reach
bounds-map-n-then-q-reach c =
    omega (arith, c.requires.2, centre-told _ _ c.requires.0 _ c.requires.1 _ c.plunge_in-q.ensures)

pub returns-then-q-reach : goal.returns-then-q-reach
returns-then-q-reach c =
    raised-one-told _ _ _ _ _ _ _ c.plunge_in-q.ensures c.if-q-reach.true
    (omega (arith, c.requires.2, centre-told _ _ c.requires.0 _ c.requires.1 _ c.plunge_in-q.ensures))
    c.max.ensures
