-- `row_down` propagates a row over the rows up to it: along itself, then from the row above.
use Rattle.distance_transform.proofs.Passes.{row-down}
use Rattle.wide_transform.proofs.Passes.{only_row}
use Rattle.wide_transform.proofs.row_down.Goals as goal

pub returns : goal.returns
returns c =
    let merged = c.merge_row.ensures in (
      row-down _ _ _ _ _ _ _ _ _ _ _ _ c.requires.reached c.load_walls.ensures
          c.propagate_row.ensures c.requires.array merged.numbers,
      only_row c.args.head _ c.args.y _ _ _ _ _ _ c.requires.here merged,
    )
