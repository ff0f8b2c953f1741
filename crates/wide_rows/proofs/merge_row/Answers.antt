-- `merge_row` leaves the joined row in all three buffers, from what the three steps ensure.
use Prim.Native.Nat.{◌+◌, ◌*◌, ◌≤◌}
use lib.ListN.{length}
use Rattle.wide_rows.proofs.Wide.{wide_room, wide-merged}
use Rattle.wide_rows.proofs.merge_row.Goals as goal

-- the row's bytes lie in the map

pub store_row-requires : goal.store_row-requires
store_row-requires c =
    let room_within : 2 * (c.args.from + c.args.width) ≤ length c.args.out.now = wide_room c.args.out.now (c.args.from + c.args.width) c.requires.room in (
      room_within,
      c.requires.narrow,
    )

pub returns : goal.returns
returns c =
    let room_within : 2 * (c.args.from + c.args.width) ≤ length c.args.out.now = wide_room c.args.out.now (c.args.from + c.args.width) c.requires.room in
    wide-merged _ _ _ _ _ _ _ _ _ c.requires.narrow c.requires.beside-margins c.requires.row-margins
    (room_within) c.join_row.ensures
    c.store_row.ensures c.copy_row.ensures
