-- `narrow` by cases: the same climb, or one that begins anew on the part of its region that is not bare.
use Rattle.climb.proofs.Climbs.{turn-asks, turn_step, turn-less}
use Rattle.climb.proofs.narrow.Goals as goal

pub settle-requires : goal.settle-requires
settle-requires c =
    let turn = c.is_turn.ensures c.if-not-is_turn.false in
    turn-asks _ _ _ _ _ _ c.requires.climbs turn _ _ c.crop_region-part.ensures

pub returns : goal.returns
returns c =
    let turn = c.is_turn.ensures c.if-not-is_turn.false in
    let part = c.crop_region-part.ensures in
    record {
      step = λ p m done g. turn_step p m _ _ _ done g turn _ _ _ _ part c.settle.ensures;
      less = λ p m done g. turn-less p m _ _ _ done g turn _ _ _ _ part c.settle.ensures;
    }
