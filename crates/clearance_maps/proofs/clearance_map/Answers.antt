-- `clearance_map` answers by the first refusal met, and writes the transform's map if there is none.
use mathlib.Core.Path.{◌≡◌, sym, ap, ◌∙◌}
use mathlib.Core.Bool.{Bool, not}
use mathlib.Core.List.{[], ◌∷◌}
use native.Mathlib.Omega.{arith}
use lib.Dec.{eqb}
use lib.ListN.{length}
use Rattle.theory.specs.Levels.{clearance}
use Rattle.refusal.specs.Refusals.{first_met, map_trials, is_level}
use Rattle.refusal.proofs.Refusals.{byte-level}
use Rattle.clearance_maps.specs.Calls.{level_verdict}
use Rattle.clearance_maps.proofs.Calls.{by-shorter, answered-accepted}
use Rattle.clearance_maps.proofs.clearance_map.Goals as goal

-- what was found is what is to be said

pub returns : goal.returns
returns c =
    let said : let given = c.args in
    c.check_map.result ≡ level_verdict given.relief.now given.kind given.width given.height given.level given.out.now = let s = c.args in
    by-shorter s.kind s.width s.height (eqb s.level 0) s.relief.now s.out.now _
    c.min-shortest.ensures _ c.check_map.ensures
    ∙ ap (λ (b : Bool). first_met (map_trials s.kind s.width s.height b (length s.relief.now ∷ length s.out.now ∷ [])))
    (byte-level s.level (omega (arith, c.ranges.level))) in
    let s = c.args in
    answered-accepted s.kind s.width s.height (not (is_level s.level)) s.relief.now s.out.now
    (sym (said) ∙ c.in_ok-check_map.was)
    (λ p. clearance p s.relief.now s.level) _ _ c.head_of.ensures
    c.transform.ensures
