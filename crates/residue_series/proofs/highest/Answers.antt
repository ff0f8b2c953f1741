use Rattle.residue_series.proofs.Stands.{tops-none, tops-more}
use Rattle.residue_series.proofs.highest.Goals as goal

pub loop-i-init : goal.loop-i-init
loop-i-init c = tops-none _

pub loop-i-preserved : goal.loop-i-preserved
loop-i-preserved c = tops-more _ _ _ _ c.loop-i.invariant c.max-top.ensures
