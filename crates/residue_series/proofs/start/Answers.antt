-- `start` makes the first erosion and takes its highest number: `started` says what stands then.
use Rattle.residue_series.proofs.Stands.{started}
use Rattle.residue_series.proofs.start.Goals as goal

pub returns : goal.returns
returns c =
    started _ _ _ _ _ _ _ c.requires c.erode_step.ensures c.highest-here.ensures
