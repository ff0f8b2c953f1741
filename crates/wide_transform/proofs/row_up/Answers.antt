-- `row_up` propagates a row over all rows, from the row below.
use Prim.Native.Nat.{◌+◌, ◌*◌, ◌≤◌}
use lib.ListN.{length}
use Rattle.buffers.proofs.Rooms.{row_room}
use Rattle.wide_rows.specs.Wide.{wide_numbers}
use Rattle.wide_rows.proofs.Wide.{wide_room}
use Rattle.distance_transform.proofs.Passes.{row_up}
use Rattle.wide_transform.proofs.Passes.{only_row}
use Rattle.wide_transform.proofs.row_up.Goals as goal

pub load_numbers-requires : goal.load_numbers-requires
load_numbers-requires c =
    let row_within : c.args.y * c.args.head.width + c.args.head.width ≤ length (wide_numbers c.args.out.now) =
    row_room c.args.head.width c.args.y c.args.head.height _ c.requires.here c.requires.room in
    let bytes-within : 2 * (c.args.y * c.args.head.width + c.args.head.width) ≤ length c.args.out.now = wide_room c.args.out.now _ (row_within) in (
      bytes-within,
      c.requires.held.narrow,
      c.requires.row-margins,
    )

pub returns : goal.returns
returns c =
    let merged = c.merge_row.ensures in (
      row_up c.args.head c.args.y _ _ _ _ _ _ c.requires.here c.load_numbers.ensures merged.numbers,
      only_row c.args.head _ c.args.y _ _ _ _ _ _ c.requires.here merged,
    )
