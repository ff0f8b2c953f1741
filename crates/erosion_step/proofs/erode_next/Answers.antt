-- `erode_next` zeroes two rows above and two below, and runs over all rows between: `next-all` puts the three together.
use native.Mathlib.Omega.{arith}
use Rattle.erosion_step.proofs.Steps.{next-all, next-gone}
use Rattle.erosion_step.proofs.erode_next.Goals as goal

pub returns-then-height-k : goal.returns-then-height-k
returns-then-height-k c =
    let given = c.args in
    next-gone given.head given.k given.src.now given.dst.now _ c.if-height-k.true c.requires.1.source
    c.zero_run.ensures

pub returns : goal.returns
returns c =
    let given = c.args in
    next-all given.head given.k given.src.now given.dst.now c.zero_run-2.new.dst
    c.zero_run-3.new.dst c.erode_run.new.dst
    c.erode_run.result (omega arith) (omega arith) c.requires.1.source c.requires.1.target
    (record
    { upper = c.zero_run-2.ensures; lower = c.zero_run-3.ensures; run = c.erode_run.ensures })
