-- `reconstruct` answers by the first refusal met, and writes the transform's map if there is none.
use mathlib.Core.Path.{◌≡◌, sym, ◌∙◌}
use mathlib.Core.Bool.{false}
use Rattle.theory.specs.Levels.{reconstructed}
use Rattle.clearance_maps.specs.Calls.{reconstruct_verdict}
use Rattle.clearance_maps.proofs.Calls.{by-shorter, answered-accepted}
use Rattle.clearance_maps.proofs.reconstruct.Goals as goal

-- what was found is what is to be said

pub returns : goal.returns
returns c =
    let said : let given = c.args in
    c.check_map.result ≡ reconstruct_verdict given.map.now given.kind given.width given.height given.out.now = let s = c.args in
    by-shorter s.kind s.width s.height false s.map.now s.out.now _ c.min-shortest.ensures _
    c.check_map.ensures in
    let s = c.args in
    answered-accepted s.kind s.width s.height false s.map.now s.out.now
    (sym (said) ∙ c.in_ok-check_map.was) (λ p. reconstructed p s.map.now)
    _ _ c.head_of.ensures c.transform.ensures
