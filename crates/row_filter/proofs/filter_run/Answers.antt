use mathlib.Core.Path.{ap, ◌∙◌}
use native.Mathlib.Omega.{arith}
use Rattle.buffers.proofs.Fill.{filled_none, filled_more}
use Rattle.row_filter.specs.Filter.{leaf}
use Rattle.row_filter.proofs.filter_run.Goals as goal

pub loop-n-init : goal.loop-n-init
loop-n-init c = filled_none _ _ _

pub loop-n-preserved : goal.loop-n-preserved
loop-n-preserved c =
    filled_more _ _ _ _ _ _ c.loop-n.invariant c.loop-n.auto.n (omega arith) (c.leaf_of.ensures ∙ ap (leaf c.args.made c.args.kind) c.window_rows.ensures)
