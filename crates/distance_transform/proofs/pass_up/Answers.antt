use native.Mathlib.Omega.{arith}
use Prim.Native.Nat.{◌*◌, ◌-◌}
use Rattle.row_arrays.proofs.Rows.{row-zeros, row_loaded}
use Rattle.distance_transform.proofs.Passes.{up_none, up_more, up-all}
use Rattle.distance_transform.proofs.pass_up.Goals as goal

pub loop-y-init : goal.loop-y-init
loop-y-init c =
    let w = c.args.head.width in
    up_none _ _ _ c.requires.0.tall
    (row_loaded w ((c.args.head.height - 1) * w) c.args.out.now _ _ (row-zeros w).margins c.load_run.ensures)

pub loop-y-preserved : goal.loop-y-preserved
loop-y-preserved c =
    up_more _ _ _ _ _ _ _ _ _ _ (omega (arith, c.loop-y-test.true)) c.loop-y.invariant
    c.row_up.ensures

pub returns : goal.returns
returns c = up-all _ _ _ _ _ _ c.loop-y.invariant c.loop-y-test.false
