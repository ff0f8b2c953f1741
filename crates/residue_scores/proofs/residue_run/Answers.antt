use mathlib.Core.Path.{◌∙◌, ap}
use native.Mathlib.Omega.{arith}
use Rattle.window.specs.Windows.{window_max}
use Rattle.buffers.proofs.Fill.{filled_none, filled_more}
use Rattle.residue_scores.proofs.Residues.{join-as}
use Rattle.residue_scores.proofs.residue_run.Goals as goal

pub loop-n-init : goal.loop-n-init
loop-n-init c = filled_none _ _ _

pub loop-n-preserved : goal.loop-n-preserved
loop-n-preserved c =
    filled_more _ _ _ _ _ _ c.loop-n.invariant (omega arith) (omega arith)
    (join-as c.args.score c.join.result _ _ c.saturating_sub.result _ c.window_max-highest.result _ c.join.ensures
    (c.loop-n.invariant.over c.loop-n.n (omega arith)) c.saturating_sub.ensures
    (c.window_max-highest.ensures ∙ ap (window_max c.args.kind) c.window_in.ensures))
