use mathlib.Core.Path.{sym}
use native.Mathlib.Omega.{arith}
use Rattle.numerals.proofs.Sizes.{cut-more, cut_all, numeral-length}
use Rattle.numerals.proofs.digit_count.Goals as goal

pub loop-rest-preserved : goal.loop-rest-preserved
loop-rest-preserved c =
    cut-more c.args.n c.loop-rest.rest c.loop-rest.count c.loop-rest.invariant
    c.loop-rest-test.true

pub returns : goal.returns
returns c =
    let n = c.args.n in
    sym (numeral-length n c.loop-rest.count (omega arith) (cut_all n c.loop-rest.rest c.loop-rest.count
    c.loop-rest.invariant c.loop-rest-test.false))
