use native.Mathlib.Omega.{arith}
use Rattle.reading.specs.Reading.{total}
use Rattle.motion_text.specs.Lines.{lines_at}
use Rattle.text.proofs.Pages.{filled_more}
use Rattle.motion_text.proofs.put_page.Goals as goal

pub loop-next-preserved : goal.loop-next-preserved
loop-next-preserved c =
    let given = c.args in
    let f = given.file.now in
    let w = c.requires.0 in
    let put = c.put_lines-used in
    filled_more (lines_at given.table.now f given.scale) (total f) given.from given.page.now c.loop-next.page
    put.new.page c.loop-next.used c.loop-next.next put.result c.loop-next.invariant
    (omega (arith, w.plunges, c.loop-next-test.true)) put.ensures.0
    (omega
    (arith, put.ensures.0.1, put.ensures.1, c.if-page-used-lt-LINES.false, c.loop-next.invariant.same, c.loop-next.invariant.fits))
