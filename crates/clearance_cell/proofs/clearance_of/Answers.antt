-- `clearance_of` gives the first refusal met, or the clearance that `nearest_wall` finds.
use native.Mathlib.Omega.{arith}
use Rattle.clearance_cell.proofs.Answers.{Ready, Judged, accepted}
use Rattle.clearance_cell.proofs.clearance_of.Goals as goal

pub overflow_cast-result : goal.overflow_cast-result
overflow_cast-result c =
    let judged : let c = c in let given = c.args in
    Judged given.relief.now given.kind given.width given.height given.level given.column given.row c.check_map.result = let c = c in record
    { wrong = c.is_wrong_cell-wrong.result; tested = c.is_wrong_cell-wrong.ensures; first = c.check_map.ensures } in
    let ready : let c = c in let given = c.args in
    Ready c.head_of-head.result given.relief.now given.level given.column given.row = let c = c in rw c.head_of-head.ensures
    (accepted (judged) c.in_ok-check_map.was) in omega (arith, c.nearest_wall-nearest.ensures, (ready).fits)
