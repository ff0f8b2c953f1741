-- `merge_row` leaves the joined row in all three buffers, from what the three steps ensure.
use Rattle.row_arrays.proofs.Rows.{merged}
use Rattle.row_arrays.proofs.merge_row.Goals as goal

pub returns : goal.returns
returns c =
    merged _ _ _ _ _ _ _ _ _ c.requires.narrow c.requires.beside-margins c.requires.row-margins c.join_row.ensures
    c.store_row.ensures c.copy_row.ensures
