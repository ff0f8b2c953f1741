-- `volume` refuses as the sides and the buffer say, and else gives the sum of the plate's bytes.
use Rattle.std.specs.Prelude.{Ok}
use mathlib.Core.Path.{sym, ap, ◌∙◌}
use mathlib.Core.Bool.{false}
use lib.ListN.{length}
use Rattle.theory.specs.Erosion.{volume}
use Rattle.refusal.specs.Refusals.{head_of}
use Rattle.refusal.proofs.Refusals.{sound}
use Rattle.erosion_maps.specs.Calls.{volume_answer}
use Rattle.erosion_maps.proofs.Answers.{volume-sum}
use Rattle.erosion_maps.proofs.volume.Goals as goal

pub returns : goal.returns
returns c =
    let given = c.args in
    let s =
    sound given.width given.height false (length given.relief.now)
    (sym c.check_sides.ensures ∙ c.in_ok-check_sides.was) in
    ap Ok (c.depth_sum.ensures ∙ volume-sum given.width given.height given.relief.now s.long) ∙ sym
    (ap (λ v. volume_answer v (volume (head_of 4 given.width given.height) given.relief.now))
    (sym c.check_sides.ensures ∙ c.in_ok-check_sides.was))
