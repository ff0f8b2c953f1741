-- `plunge_motions` reads the file first.
use mathlib.Core.Path.{sym, ◌∙◌}
use Rattle.refusal.proofs.Refusals.{passed-on}
use Rattle.reading.proofs.Answers.{file-fault, read-refused, read-accepted}
use Rattle.motion.proofs.plunge_motions.Goals as goal

pub motions_at-requires : goal.motions_at-requires
motions_at-requires c =
    read-accepted _ _ (sym c.in_ok-job.was ∙ c.read.ensures)

pub returns-in_err-job : goal.returns-in_err-job
returns-in_err-job c =
    passed-on _ _ c.from_residual.ensures.1
    ∙ rw (file-fault _ _ _ (read-refused _ _ _ (sym c.in_err-job.was ∙ c.read.ensures)))
