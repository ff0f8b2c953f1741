-- Serves proofs: what a copy that failed comes to.
use Rattle.tool_answers.specs.declared.Fault.{Fault}
use Rattle.tool_answers.specs.declared.Fault.TheVariants.{Refused, Faulty}
use Rattle.pgm_copies.specs.declared.CopyFault.{CopyFault}
use Rattle.pgm_copies.specs.declared.CopyFault.TheVariants.{NoRoom, TooFew, Unread}

-- 5 with the bytes that it takes where the room is too small, 4 where depths are missing, and a picture's fault as it is
abbrev pub fault_of : CopyFault → Fault
fault_of (NoRoom needed) = Refused (record { number = 5; place = needed })
fault_of TooFew = Refused (record { number = 4; place = 0 })
fault_of (Unread fault) = Faulty fault
