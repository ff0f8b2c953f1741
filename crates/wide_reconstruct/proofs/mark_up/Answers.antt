use native.Mathlib.Omega.{arith}
use Rattle.wide_reconstruct.proofs.Marks.{up_none, up_more}
use Rattle.wide_reconstruct.proofs.mark_up.Goals as goal

pub loop-y-init : goal.loop-y-init
loop-y-init c = up_none _ _ _

pub loop-y-preserved : goal.loop-y-preserved
loop-y-preserved c =
    up_more _ _ _ _ _ _ _ _ _ _ _ _ _ (omega (arith, c.loop-y-test.true)) c.loop-y.invariant c.mark_row.ensures
