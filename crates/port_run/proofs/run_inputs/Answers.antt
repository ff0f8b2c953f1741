use mathlib.Core.Path.{◌≡◌}
use native.Mathlib.Omega.{arith}
use lib.ListN.{length}
use Rattle.port_run.specs.Traces.{input_count}
use Rattle.port_run.proofs.Running.{run_more, run-all}
use Rattle.port_run.proofs.run_inputs.Goals as goal

pub loop-k-preserved : goal.loop-k-preserved
loop-k-preserved c =
    let given = c.args in
    run_more given.port given.trace.now given.numbers.now c.loop-k.k c.loop-k.numbers
    c.run_input-after.new.numbers c.loop-k.after c.run_input-after.result
    (omega (arith, c.loop-k-test.true, c.requires.room)) c.loop-k.invariant c.run_input-after.ensures

pub returns : goal.returns
returns c =
    let given = c.args in
    let e : c.loop-k.k ≡ input_count (length given.trace.now) = omega (arith, c.loop-k.auto.k-end, c.loop-k-test.false) in
    run-all given.port given.trace.now given.numbers.now c.loop-k.numbers c.loop-k.after (rw e at c.loop-k.invariant)
