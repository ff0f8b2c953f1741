-- `append_name` puts byte after byte.
use Rattle.phrases.proofs.Appends.{Shown}
use Rattle.phrases.proofs.append_name.Given as goal

abbrev pub invariant-loop-byte : goal.invariant-loop-byte
invariant-loop-byte l = Shown l.initial.page l.at l.name l.page l.end l.byte-index
