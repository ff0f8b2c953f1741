use native.Mathlib.Omega.{arith}
use Rattle.text.specs.Pages.{line_at, line_count}
use Rattle.text.proofs.Pages.{filled_more}
use Rattle.text.proofs.put_page.Goals as goal

pub loop-next-preserved : goal.loop-next-preserved
loop-next-preserved c =
    let given = c.args in
    let f = given.file.now in
    let w = c.requires.0 in
    let put = c.put_line-used in
    filled_more (line_at f) (line_count f) given.from given.page.now c.loop-next.page put.new.page
    c.loop-next.used c.loop-next.next put.result c.loop-next.invariant
    (omega (arith, w.plunges, c.loop-next-test.true)) put.ensures.0
    (omega
    (arith, put.ensures.0.1, put.ensures.1, c.if-page-used-lt-LINE.false, c.loop-next.invariant.same, c.loop-next.invariant.fits))
