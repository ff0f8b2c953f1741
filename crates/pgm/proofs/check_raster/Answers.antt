-- `check_raster` counts the samples, then looks at each.
use Rattle.pgm.proofs.Checks.{raster-short, raster-bad, raster-passed}
use Rattle.pgm.proofs.check_raster.Goals as goal

pub returns-then-left-needed : goal.returns-then-left-needed
returns-then-left-needed c =
    raster-short c.args.file.now c.args.first c.args.needed
    c.args.most c.if-left-needed.true

pub returns-then-n-needed : goal.returns-then-n-needed
returns-then-n-needed c =
    let given = c.args in
    raster-bad given.file.now given.first given.needed given.most c.count_within-n.result
    c.if-left-needed.false c.count_within-n.ensures c.if-n-needed.true

pub returns : goal.returns
returns c =
    let given = c.args in
    raster-passed given.file.now given.first given.needed given.most c.count_within-n.result
    c.if-left-needed.false c.count_within-n.ensures c.if-n-needed.false
