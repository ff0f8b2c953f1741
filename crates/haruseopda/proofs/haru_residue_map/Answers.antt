-- `haru_residue_map` tells what the inner call answers to narrowed numbers, and by its law that is the answer to the numbers given.
use Rattle.haruseopda.proofs.Promises.{residue-map-promise}
use Rattle.haruseopda.proofs.haru_residue_map.Goals as goal

pub returns : goal.returns
returns c =
    let given = c.args in (
      _,
      residue-map-promise given.kind given.width given.height _ c.narrow_plate-plate.ensures
          given.relief.now given.out.now _ given.a.now _ given.b.now _ given.number _ _
          c.narrow_word.ensures c.residue_map.ensures,
      c.of_verdict.ensures,
    )
