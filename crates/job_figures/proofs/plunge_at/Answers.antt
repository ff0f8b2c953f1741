-- `plunge_at` reads the plunge; a readable file has no other reaches.
use Rattle.job_figures.proofs.ByReach.{reach-below}
use Rattle.job_figures.proofs.plunge_at.Goals as goal

pub returns : goal.returns
returns c = (
  c.nth_plunge.ensures,
  reach-below c.args.file.now c.args.i _
      c.requires.0.readable c.requires.1 c.nth_plunge.ensures,
)
