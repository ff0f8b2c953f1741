-- `create_beside` tries another name while the last one was taken.
use Rattle.io.specs.Counts.{IsPrefixLen}
use Rattle.tool_io.proofs.output.create_beside.Given as goal

abbrev pub invariant-loop : goal.invariant-loop
invariant-loop l = IsPrefixLen l.made.length l.part
