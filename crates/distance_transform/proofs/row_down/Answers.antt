-- `row_down` propagates a row over the rows up to it: along itself, then from the row above.
use Rattle.distance_transform.proofs.Passes.{row-down}
use Rattle.distance_transform.proofs.row_down.Goals as goal

pub returns : goal.returns
returns c =
    row-down _ _ _ _ _ _ _ _ _ _ _ _ c.requires.reached c.load_row.ensures
    c.propagate_row.ensures c.requires.array c.merge_row.ensures
