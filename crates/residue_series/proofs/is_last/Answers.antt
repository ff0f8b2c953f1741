-- `is_last` by cases: the last number, an erosion that is nowhere above 0, no rows left.
use Rattle.residue_series.proofs.Stands.{last-or-not}
use Rattle.residue_series.proofs.is_last.Goals as goal

pub returns-else-at-eq0 : goal.returns-else-at-eq0
returns-else-at-eq0 c = last-or-not _ _ c.requires c.if-at-eq0.false.0 c.if-at-eq0.false.1
