-- `put_clearances` gives clearances: the way down, the way up, and what the numbers say.
use Rattle.wide_transform.proofs.Passes.{wide-clearances}
use Rattle.wide_transform.proofs.put_clearances.Goals as goal

pub returns : goal.returns
returns c =
    let down = c.pass_down.ensures in
    let up = c.pass_up.ensures in
    wide-clearances c.args.head c.args.level c.args.relief.now _ _ _ _ c.requires.0 c.requires.1
    down.0 down.1 up.0 up.1 c.finish_run.ensures
