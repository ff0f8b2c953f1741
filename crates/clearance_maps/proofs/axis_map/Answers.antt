-- `axis_map` answers as `clearance_map` does, and keeps of its map what no neighbour exceeds.
use mathlib.Core.Path.{refl, sym, ◌∙◌}
use mathlib.Core.Bool.{not}
use Rattle.theory.specs.Levels.{clearance, axis}
use Rattle.refusal.specs.Refusals.{is_level}
use Rattle.buffers.specs.Fill.{Mapped}
use Rattle.clearance_maps.proofs.Axis.{axis-mapped}
use Rattle.clearance_maps.proofs.Calls.{accepted-level, accepted-mapped, answered-accepted}
use Rattle.clearance_maps.proofs.axis_map.Goals as goal

-- an accepted call of `clearance_map` wrote the clearances

pub returns : goal.returns
returns c =
    let mapped : let given = c.args in
    Mapped c.head_of.result (clearance c.head_of.result given.relief.now given.level) given.out.now
    c.clearance_map.new.out = let s = c.args in
    let g = c.clearance_map.ensures in
    accepted-mapped s.kind s.width s.height (not (is_level s.level)) s.relief.now s.out.now
    (sym g.answer ∙ c.in_ok-clearance_map.was) (λ p. clearance p s.relief.now s.level) _ _ _
    c.head_of.ensures g in
    let s = c.args in
    let a = sym c.clearance_map.ensures.answer ∙ c.in_ok-clearance_map.was in
    answered-accepted s.kind s.width s.height (not (is_level s.level)) s.relief.now s.out.now a
    (λ p. axis p s.relief.now s.level) _ _ c.head_of.ensures
    (axis-mapped _ s.relief.now s.level
    (accepted-level s.kind s.width s.height (not (is_level s.level)) s.relief.now s.out.now a s.level refl)
    _ _ _ mapped c.filter_map.ensures)
