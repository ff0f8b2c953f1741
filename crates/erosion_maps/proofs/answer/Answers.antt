-- `answer` refuses by the shortest buffer, and else leaves what `fill` makes: the verdict is that over all four buffers.
use mathlib.Core.Path.{◌≡◌, sym, ap, ◌∙◌}
use mathlib.Core.Bool.{Bool}
use mathlib.Core.List.{[], ◌∷◌}
use Rattle.refusal.specs.Refusals.{first_met, map_trials}
use Rattle.erosion_maps.specs.Maps.{wrong_number, asked_map, four_verdict}
use Rattle.erosion_maps.proofs.Answers.{by-shortest, left-filled}
use Rattle.erosion_maps.proofs.answer.Goals as goal

-- what was found is what is to be said

pub returns : goal.returns
returns c =
    let said : let s = c.args in
    c.check_map.result ≡ four_verdict s.kind s.width s.height (wrong_number s.asked) s.relief.now s.out.now s.a.now s.b.now = let s = c.args in
    c.check_map.ensures
    ∙ ap (λ (t : Bool). first_met (map_trials s.kind s.width s.height t (c.shortest-room.result ∷ []))) c.is_wrong-wrong.ensures
    ∙ by-shortest s.kind s.width s.height (wrong_number s.asked) s.relief.now s.out.now s.a.now s.b.now
    c.shortest-room.result c.shortest-room.ensures in
    let s = c.args in
    left-filled s.kind s.width s.height (wrong_number s.asked) s.relief.now s.out.now s.a.now s.b.now
    (sym (said) ∙ c.in_ok-check_map.was) (λ p. asked_map s.asked p s.relief.now) _ _ _ _
    c.head_of.ensures c.fill.ensures
