-- `haru_list` tells what the inner call answers to narrowed numbers, and by its law that is the answer to the numbers given.
use Rattle.haruseopda.proofs.Promises.{list-promise}
use Rattle.haruseopda.proofs.haru_list.Goals as goal

pub returns : goal.returns
returns c =
    let given = c.args in (
      _,
      list-promise given.kind given.width given.height _ c.narrow_plate-plate.ensures
          given.relief.now given.out.now _ given.a.now _ given.b.now _ _ c.list.ensures,
      c.of_list.ensures,
    )
