-- `copy_scan` puts three bytes, and the samples behind them.
use Rattle.pgm_copies.proofs.Copying.{scan-none, scan-all}
use Rattle.pgm_copies.proofs.copy_scan.Goals as goal

pub returns-then-out-needed : goal.returns-then-out-needed
returns-then-out-needed c =
    let given = c.args in
    scan-none given.file.now given.kind given.picture c.requires given.out.now c.if-out-needed.true

pub returns : goal.returns
returns c =
    let given = c.args in
    scan-all given.file.now given.kind given.picture c.requires given.out.now
    c.append-end.new.page c.append.new.page c.append-end.result
    c.append.result c.if-out-needed.false c.append-end.ensures.0
    c.append.ensures.0
