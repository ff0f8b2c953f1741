use Prim.Native.Nat.{◌+◌, ◌-◌, ◌*◌, ◌≤◌}
use native.Mathlib.Omega.{arith}
use lib.ListN.{length}
use Rattle.buffers.proofs.Rooms.{row_room}
use Rattle.row_arrays.proofs.Rows.{row-zeros}
use Rattle.wide_rows.proofs.Wide.{room-wide, wide_room}
use Rattle.distance_transform.proofs.Passes.{up_none, up_more, up-all}
use Rattle.wide_transform.proofs.Passes.{only_none, only-more}
use Rattle.wide_transform.proofs.pass_up.Goals as goal

pub load_numbers-requires : goal.load_numbers-requires
load_numbers-requires c =
    let last_row : 2 * ((c.args.head.height - 1) * c.args.head.width + c.args.head.width) ≤ length c.args.out.now = wide_room c.args.out.now _
    (row_room c.args.head.width (c.args.head.height - 1) c.args.head.height _ (omega (arith, c.requires.0.tall))
    (room-wide c.args.out.now _ c.requires.1)) in (
      last_row,
      c.requires.0.narrow,
      (row-zeros c.args.head.width).margins,
    )

pub loop-y-init : goal.loop-y-init
loop-y-init c =
    (up_none _ _ _ c.requires.0.tall c.load_numbers.ensures, only_none _ _)

pub row_up-requires : goal.row_up-requires
row_up-requires c =
    let d = c.loop-y.invariant.0 in
    let g = c.requires in
    record {
      held = g.0;
      room = room-wide _ _ (omega (arith, g.1, c.loop-y.invariant.1.same));
      here = omega (arith, d.within);
      row-margins = d.row-margins;
      below-margins = d.below-margins;
    }

pub loop-y-preserved : goal.loop-y-preserved
loop-y-preserved c =
    let done = c.row_up.ensures in (
      up_more _ _ _ _ _ _ _ _ _ _ (omega (arith, c.loop-y-test.true)) c.loop-y.invariant.0 done.0,
      only-more _ _ _ _ c.loop-y.invariant.1 done.1,
    )

pub returns : goal.returns
returns c = (up-all _ _ _ _ _ _ c.loop-y.invariant.0 c.loop-y-test.false, c.loop-y.invariant.1)
