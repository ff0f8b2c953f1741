-- `mark_row` marks what a row's numbers reach, along the row and from the row beside.
use Rattle.wide_reconstruct.proofs.Marks.{row-marked}
use Rattle.wide_reconstruct.proofs.mark_row.Goals as goal

pub returns : goal.returns
returns c =
    row-marked c.args.head c.args.map.now c.args.y c.requires.here c.requires.plates.held _ _ _ _ _ _ _ _ c.requires.beside-margins
    c.load_numbers.ensures c.propagate_row.ensures c.join_row.ensures
    c.mark_run.ensures c.copy_row.ensures
