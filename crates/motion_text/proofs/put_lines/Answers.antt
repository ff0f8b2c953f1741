-- `put_lines` puts the lines of the answer that came.
use mathlib.Core.Path.{ap}
use Rattle.motion_text.specs.Lines.{answer_lines}
use Rattle.motion_text.proofs.Lines.{lines-asks, lines-put, lines_none}
use Rattle.motion_text.proofs.put_lines.Goals as goal

pub returns-in-Err : goal.returns-in-Err
returns-in-Err c =
    let given = c.args in
    lines_none given.table.now given.file.now given.scale given.i given.page.now given.at _
    c.motions_at-answer.ensures (ap answer_lines c.in-Err.is)

pub put_three-requires : goal.put_three-requires
put_three-requires c =
    let given = c.args in
    lines-asks given.table.now given.file.now given.scale given.i c.in-Ok.motions given.page.now given.at
    c.requires.1

pub returns-in-Ok : goal.returns-in-Ok
returns-in-Ok c =
    let given = c.args in
    let put = c.put_three in
    lines-put given.table.now given.file.now given.scale given.i _ _ given.page.now put.new.page given.at
    put.result c.motions_at-answer.ensures c.in-Ok.is put.ensures
