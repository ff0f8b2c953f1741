-- `follow_links` goes on while the name is a link.
use Rattle.io.specs.Counts.{IsPrefixLen}
use Rattle.tool_io.proofs.names.follow_links.Given as goal

abbrev pub invariant-loop : goal.invariant-loop
invariant-loop l = IsPrefixLen l.used l.name
