use native.Mathlib.Omega.{arith}
use Rattle.wide_rows.proofs.Wide.{wide-none}
use Rattle.wide_axis.proofs.Pass.{bytes-stored}
use Rattle.wide_axis.proofs.keep_run.Goals as goal

pub loop-n-init : goal.loop-n-init
loop-n-init c = wide-none _ _ _

pub loop-n-preserved : goal.loop-n-preserved
loop-n-preserved c =
    bytes-stored _ _ _ _ _ _ _ _ c.loop-n.invariant (omega arith) (omega arith) c.keep-number.ensures c.first_byte.ensures c.second_byte.ensures
