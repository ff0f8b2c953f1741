-- `put_axis` gives the axis: clearances, and what is kept of them.
use Rattle.wide_axis.proofs.Axis.{wide-axis}
use Rattle.wide_axis.proofs.put_axis.Goals as goal

pub returns : goal.returns
returns c =
    wide-axis c.args.head c.args.relief.now c.args.level c.requires.1 _ _ _
    c.put_clearances.ensures c.keep_axis.ensures
