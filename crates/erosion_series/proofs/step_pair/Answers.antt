-- `step_pair` is one erosion, from the buffer that has the last one into the other, by whether the number is even.
use mathlib.Core.Path.{refl}
use native.Mathlib.Omega.{arith}
use Rattle.erosion_series.proofs.step_pair.Goals as goal

pub erode_step-requires : goal.erode_step-requires
erode_step-requires c =
    let g = c.requires in
    let m = g.even c.if-k-eq0.true in
    record { number = g.number; wide = g.wide; read = g.first; room = g.second; source = m.0; target = m.1 }

pub returns-then-k-eq0 : goal.returns-then-k-eq0
returns-then-k-eq0 c = record { even = λ e. (refl, c.erode_step.ensures); odd = λ o. absurd (omega arith) }

pub erode_step-requires-2 : goal.erode_step-requires-2
erode_step-requires-2 c =
    let g = c.requires in
    let m = g.odd (omega arith) in
    record { number = g.number; wide = g.wide; read = g.second; room = g.first; source = m.0; target = m.1 }

pub returns : goal.returns
returns c = record { even = λ e. absurd (omega arith); odd = λ o. (refl, c.erode_step-2.ensures) }
