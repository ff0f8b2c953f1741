-- `number_after` reads the number behind the gap.
use mathlib.Core.Path.{ap, ◌∙◌}
use Rattle.pgm.specs.Pgm.{number_at, number_after}
use Rattle.pgm.proofs.number_after.Goals as goal

pub returns : goal.returns
unfolding number_after
returns c =
    c.number_at.ensures ∙ ap (number_at c.args.file.now) c.gap_end.ensures
