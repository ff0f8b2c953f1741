-- `is_tidy` asks the tidy check, which only 12 can refuse here.
use mathlib.Core.Path.{◌∙◌}
use Rattle.job_relief.proofs.Relief.{tidy-told, checked-work}
use Rattle.job_relief.proofs.is_tidy.Goals as goal

pub returns : goal.returns
returns c =
    let given = c.args in (
      c.is_ok.ensures.value
          ∙ tidy-told given.file.now given.a.now given.b.now given.c.now c.requires.job.readable
          c.requires.first c.requires.second c.requires.third _ c.check.ensures.answer,
      checked-work given.file.now _ _ _ _ _ _ _ c.check.ensures,
    )
