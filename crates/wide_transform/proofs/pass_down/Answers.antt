use native.Mathlib.Omega.{arith}
use Rattle.wide_rows.proofs.Wide.{room-wide, wide_fits}
use Rattle.distance_transform.proofs.Passes.{down-none, down-more}
use Rattle.wide_transform.proofs.Passes.{only_none, only-more}
use Rattle.wide_transform.proofs.pass_down.Goals as goal

pub loop-y-init : goal.loop-y-init
loop-y-init c = (down-none _ _ _, only_none _ _)

pub row_down-requires : goal.row_down-requires
row_down-requires c =
    let d = c.loop-y.invariant.0 in
    let g = c.requires in
    record {
      held = g.held;
      reached = omega (arith, g.held.narrow, wide_fits.reached);
      read = g.read;
      room = room-wide _ _ (omega (arith, g.room, c.loop-y.invariant.1.same));
      here = c.loop-y-test.true;
      row-margins = d.row-margins;
      spare-margins = d.spare-margins;
      array = d.array;
    }

pub loop-y-preserved : goal.loop-y-preserved
loop-y-preserved c =
    let done = c.row_down.ensures in (
      down-more _ _ _ _ _ _ _ _ _ _ _ _ c.loop-y.invariant.0 c.loop-y-test.true done.0,
      only-more _ _ _ _ c.loop-y.invariant.1 done.1,
    )
