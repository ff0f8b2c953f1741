-- Serves proofs: a turn of the status as the code makes it, where a status that stays is one that is refused.
use Rattle.std.specs.Prelude.{cond, ℕ, eqb, Ok, Err}
use Rattle.port.specs.declared.Port.{Port}
use Rattle.port.specs.declared.PortAnswer.{PortAnswer}
use Rattle.port.specs.Machine.{status_byte, status, with_byte}

abbrev pub refused_as : Port → ℕ → PortAnswer
refused_as p n = record { port = p; verdict = Err (record { number = n; place = 0 }) }

abbrev pub accepted : Port → PortAnswer
accepted p = record { port = p; verdict = (Ok tt) }

abbrev pub turning : Port → ℕ → Port → PortAnswer
turning old after new = cond (eqb after (status old)) (refused_as old 17) (accepted (with_byte status_byte after new))
