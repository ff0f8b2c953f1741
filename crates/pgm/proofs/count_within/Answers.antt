use mathlib.Core.Path.{◌∙◌}
use native.Mathlib.Omega.{arith}
use Rattle.pgm.proofs.Scanning.{within_more, within-stop, within-ended}
use Rattle.pgm.proofs.count_within.Goals as goal

pub returns-then-most-s : goal.returns-then-most-s
returns-then-most-s c =
    within-stop c.args.samples.now c.args.most c.loop-i.i
    c.loop-i-test.true c.if-most-s.true ∙ c.loop-i.invariant

pub loop-i-preserved : goal.loop-i-preserved
loop-i-preserved c =
    within_more c.args.samples.now c.args.most c.loop-i.i
    c.loop-i-test.true c.if-most-s.false ∙ c.loop-i.invariant

pub returns : goal.returns
returns c =
    let e = within-ended c.args.samples.now c.args.most c.loop-i.i c.loop-i-test.false ∙ c.loop-i.invariant in
    omega (arith, e)
