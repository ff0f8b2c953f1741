-- `transform` gives clearances or the reconstruction: the way down, the way up, and what the numbers say.
use Rattle.distance_transform.proofs.Finish.{transformed}
use Rattle.distance_transform.proofs.transform.Goals as goal

pub returns : goal.returns
returns c =
    transformed c.args.head c.args.seeds c.args.map.now _ _ _ _ c.requires.0 c.requires.1
    c.pass_down.ensures c.pass_up.ensures c.finish_run.ensures
