-- `run_inputs` runs input after input, each from the port that the one before left.
use Rattle.port_run.proofs.Running.{RunTo}
use Rattle.port_run.proofs.run_inputs.Given as goal

abbrev pub invariant-loop-k : goal.invariant-loop-k
invariant-loop-k l = RunTo l.initial.after l.trace l.initial.numbers l.k l.numbers l.after
