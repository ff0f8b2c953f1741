-- `list` tries its arguments, then lists.
use Rattle.jobs.proofs.Calls.{list_done}
use Rattle.jobs.proofs.list.Goals as goal

pub returns : goal.returns
returns c =
    let given = c.args in
    list_done given.relief.now given.kind given.width given.height given.out.now given.a.now
    given.b.now _ _ c.shortest-room.ensures c.check_map.ensures
    c.in_ok-check_map.was _ c.head_of-head.ensures _ _ _ _ c.list_into.ensures.0
    c.list_into.ensures.1 c.list_into.ensures.2
