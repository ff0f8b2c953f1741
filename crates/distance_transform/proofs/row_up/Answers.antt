-- `row_up` propagates a row over all rows, from the row below.
use Prim.Native.Nat.{◌*◌}
use Rattle.row_arrays.proofs.Rows.{row_loaded}
use Rattle.distance_transform.proofs.Passes.{row_up}
use Rattle.distance_transform.proofs.row_up.Goals as goal

pub returns : goal.returns
returns c =
    row_up c.args.head c.args.y _ _ _ _ _ _ c.requires.here
    (row_loaded c.args.head.width (c.args.y * c.args.head.width) c.args.out.now _ _ c.requires.row-margins c.load_run.ensures)
    c.merge_row.ensures
