-- `volume_of` draws the file into the work buffer and adds up the plate's bytes.
use mathlib.Core.Path.{sym, ◌∙◌}
use Rattle.job_relief.proofs.Relief.{drawn-kept, volume-given, volume-refused}
use Rattle.job_relief.proofs.volume_of.Goals as goal

pub returns-in-Err : goal.returns-in-Err
returns-in-Err c =
    absurd
    (volume-refused c.args.file.now c.args.work.now c.requires.0.readable
    c.requires.1 _ _ c.draw.ensures _ _ c.requires.0.head
    (sym c.in-Err.is ∙ c.volume.ensures))

pub returns-in-Ok : goal.returns-in-Ok
returns-in-Ok c = (
  volume-given c.args.file.now c.args.work.now c.requires.0.readable
      c.requires.1 _ _ c.draw.ensures _ _ c.requires.0.head
      (sym c.in-Ok.is ∙ c.volume.ensures),
  drawn-kept c.args.file.now c.args.work.now c.requires.0.readable
      c.requires.1 _ _ c.draw.ensures,
)
