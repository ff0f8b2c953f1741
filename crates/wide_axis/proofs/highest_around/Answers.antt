-- `highest_around` is the highest at the places of the neighbours: along the row, then of the rows beside.
use Rattle.wide_axis.proofs.Around.{highest-around}
use Rattle.wide_axis.proofs.highest_around.Goals as goal

pub returns : goal.returns
returns c =
    let given = c.args in
    highest-around given.kind given.above.now given.mid.now given.below.now given.n
    c.max.ensures c.max-along.ensures c.max-beside.ensures
    c.highest_beside.ensures c.highest_beside-2.ensures
