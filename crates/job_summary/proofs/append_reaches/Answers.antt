use Rattle.job_summary.proofs.Lines.{lined-none, lined-more, lined-all}
use Rattle.reading.specs.Reading.{plunges_in}
use mathlib.Core.Path.{refl}
use native.Mathlib.Omega.{arith}
use Rattle.job_summary.proofs.append_reaches.Goals as goal

pub tally-requires : goal.tally-requires
tally-requires c =
    (c.requires.0, record { none = refl; low = refl; high = refl })

pub loop-reach-init : goal.loop-reach-init
loop-reach-init c =
    let given = c.args in
    lined-none given.page.now given.at c.requires.1 (plunges_in given.file.now)

pub append_found-end-requires : goal.append_found-end-requires
append_found-end-requires c = c.loop-reach.invariant.counted.0

pub loop-reach-preserved : goal.loop-reach-preserved
loop-reach-preserved c =
    let given = c.args in
    lined-more given.page.now given.at c.requires.1 (plunges_in given.file.now) _ _ _
    c.tally.ensures _ _ _ _ _ c.loop-reach.invariant (omega (arith, c.loop-reach-test.true))
    c.append_found-end.ensures

pub returns : goal.returns
returns c =
    let given = c.args in
    lined-all given.page.now given.at c.requires.1 (plunges_in given.file.now) _ _ _
    c.loop-reach.invariant (omega (arith, c.loop-reach-test.false))
