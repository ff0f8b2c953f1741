-- `compare` draws the first file, then the second.
use mathlib.Core.Path.{subst}
use Rattle.jobs.specs.Calls.{Drawn}
use Rattle.comparison.proofs.Maps.{drawn-holds}
use Rattle.comparison.proofs.compare.Goals as goal
use Rattle.refusal.specs.Refusals.{Verdict}

pub compare_second-requires : goal.compare_second-requires
compare_second-requires c =
    let given = c.args in
    let f = given.first.now in
    let g = given.second.now in
    let draw = c.draw in
    let d =
    subst (λ (v : Verdict). Drawn f given.a.now draw.new.out v) c.in-Ok.is
    draw.ensures in
    drawn-holds f given.a.now draw.new.out d
