-- `haru_axis_map` tells what the inner call answers to narrowed numbers, and by its law that is the answer to the numbers given.
use Rattle.haruseopda.proofs.Promises.{axis-map-promise}
use Rattle.haruseopda.proofs.haru_axis_map.Goals as goal

pub returns : goal.returns
returns c =
    let given = c.args in (
      _,
      axis-map-promise given.kind given.width given.height _ c.narrow_plate-plate.ensures
          given.relief.now given.out.now _ _ given.level _ c.narrow_byte.ensures
          c.axis_map.ensures,
      c.of_verdict.ensures,
    )
