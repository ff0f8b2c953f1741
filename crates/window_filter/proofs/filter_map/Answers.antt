-- `filter_map` leaves a plate that is edge alone, and otherwise has one of two passes make the rows.
use Rattle.row_filter.proofs.InPlace.{filtered-narrow, filtered-low, highest-made}
use Rattle.window_filter.proofs.filter_map.Goals as goal

pub returns-then-head-edge : goal.returns-then-head-edge
returns-then-head-edge c =
    filtered-narrow c.args.head c.args.edge _ c.requires.zeros c.args.made c.if-head-edge.true

pub returns-then-head-edge-2 : goal.returns-then-head-edge-2
returns-then-head-edge-2 c =
    filtered-low c.args.head c.args.edge _ c.requires.zeros c.args.made c.if-head-edge-2.true

pub highest_rows-requires : goal.highest_rows-requires
highest_rows-requires c =
    (c.requires, record { columns = c.if-head-edge.false; rows = c.if-head-edge-2.false }, (c.is_growth.ensures c.if-is_growth.true).1)

pub returns-then-is_growth : goal.returns-then-is_growth
returns-then-is_growth c =
    highest-made _ _ _ _ (c.is_growth.ensures c.if-is_growth.true).0 c.highest_rows.ensures
