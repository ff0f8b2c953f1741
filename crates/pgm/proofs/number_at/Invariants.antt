-- `number_at` reads digit by digit.
use Rattle.std.proofs.Common.{◌≤◌, length}
use Prim.Native.Nat.{max}
use Rattle.pgm.proofs.Scanning.{Reads}
use Rattle.pgm.proofs.number_at.Given as goal

abbrev pub invariant-loop-end : goal.invariant-loop-end
invariant-loop-end l = record { within : l.end ≤ max l.at (length l.file); read : Reads l.file l.at l.value l.end }
