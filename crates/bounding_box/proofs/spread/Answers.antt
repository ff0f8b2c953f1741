use native.Mathlib.Omega.{arith}
use Rattle.bounding_box.proofs.Boxing.{stretch, filled-moved, spread-more, spread-all}
use Rattle.bounding_box.proofs.spread.Goals as goal

pub zero_run-requires-in-loop-y : goal.zero_run-requires-in-loop-y
zero_run-requires-in-loop-y c =
    let t = stretch _ _ c.requires.1 _ c.loop-y-test.true c.loop-y.auto.y in
    (omega (arith, t.across), omega (arith, t.within, c.requires.2, c.zero_run.ensures.same, c.copy_within.ensures.len, c.loop-y.invariant.same))

pub loop-y-preserved : goal.loop-y-preserved
loop-y-preserved c =
    spread-more _ _ _ _ _ _ _ _ _ _ (omega (arith, c.loop-y-test.true)) (stretch _ _ c.requires.1 _ c.loop-y-test.true c.loop-y.auto.y) c.loop-y.invariant
    (filled-moved _ _ _ _ _ c.copy_within.ensures.len c.copy_within.ensures.by_index) c.zero_run.ensures c.zero_run-in-loop-y.ensures

pub returns : goal.returns
returns c =
    spread-all _ _ c.requires.1 _ _ _ _ _ c.loop-y-test.false c.loop-y.invariant c.zero_run-2.ensures c.zero_run-3.ensures
