use native.Mathlib.Omega.{arith}
use mathlib.Core.Path.{◌∙◌, ap}
use Rattle.window.specs.Windows.{window_min}
use Rattle.erosion_step.proofs.Steps.{eroded-none, eroded-more}
use Rattle.erosion_step.proofs.erode_run.Goals as goal

pub loop-n-init : goal.loop-n-init
loop-n-init c = eroded-none _ _ _ _ _ _

pub loop-n-preserved : goal.loop-n-preserved
loop-n-preserved c =
    eroded-more _ _ _ _ _ _ _ _ _ _ c.loop-n.invariant (omega arith) (omega arith)
    (c.window_min-v.ensures ∙ ap (window_min c.args.kind) c.window_in.ensures) c.max-top.ensures
