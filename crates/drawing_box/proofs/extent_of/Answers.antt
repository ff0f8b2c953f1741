use native.Mathlib.Omega.{arith}
use Rattle.drawing_box.proofs.Boxed.{extended-more, extended-whole}
use Rattle.drawing_box.proofs.extent_of.Goals as goal

pub returns-then-is_wide : goal.returns-then-is_wide
returns-then-is_wide c =
    extended-whole _ _ _ c.requires.1

pub loop-i-preserved : goal.loop-i-preserved
loop-i-preserved c =
    extended-more _ _ _ _ _ _ _ _ (omega (arith, c.loop-i-test.true)) c.requires.1 c.loop-i.auto.i c.loop-i.invariant
    c.plunge_at.ensures c.widened-extent.ensures
