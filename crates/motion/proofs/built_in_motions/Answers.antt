-- `built_in_motions` reads the file first.
use Rattle.refusal.proofs.Refusals.{passed-on}
use Rattle.reading.proofs.Answers.{file-fault, read-refused, read-accepted}
use mathlib.Core.Path.{sym, ◌∙◌}
use Rattle.motion.proofs.built_in_motions.Goals as goal

pub built_in_at-requires : goal.built_in_at-requires
built_in_at-requires c =
    read-accepted _ _ (sym c.in_ok-job.was ∙ c.read.ensures)

pub returns : goal.returns
returns c = c.built_in_at.ensures

pub returns-in_err-job : goal.returns-in_err-job
returns-in_err-job c =
    passed-on _ _ c.from_residual.ensures.1
    ∙ rw (file-fault _ _ _ (read-refused _ _ _ (sym c.in_err-job.was ∙ c.read.ensures)))
