use Rattle.geometry.specs.Lists.{common}
use lib.ListN.{drop, replicate}
use mathlib.Core.Path.{ap, ◌∙◌}
use Rattle.listing_plunges.proofs.Marks.{field-first}
use Rattle.listing_plunges.proofs.compare_plunge.Goals as goal

pub returns : goal.returns
returns c =
    let given = c.args in
    c.common_run.ensures ∙ ap (common (drop given.at given.file.now))
    (field-first given.size given.q (replicate 10 0) _ _ c.plunge_bytes.ensures
    c.put_plunge.ensures)
