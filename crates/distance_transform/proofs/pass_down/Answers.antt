use Rattle.distance_transform.proofs.Passes.{down-none, down-more}
use Rattle.distance_transform.proofs.pass_down.Goals as goal

pub loop-y-init : goal.loop-y-init
loop-y-init c = down-none _ _ _

pub loop-y-preserved : goal.loop-y-preserved
loop-y-preserved c =
    down-more _ _ _ _ _ _ _ _ _ _ _ _ c.loop-y.invariant c.loop-y-test.true
    c.row_down.ensures
