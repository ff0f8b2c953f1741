-- `read_fields` gives what the fields come to: the loop keeps that what is left decides the verdict.
use Prim.Native.Nat.{◌-◌}
use lib.ListN.{length}
use Rattle.reading.proofs.FieldSteps.{Reading}
use Rattle.reading.proofs.read_fields.Given as goal

abbrev pub invariant-loop-n : goal.invariant-loop-n
invariant-loop-n l = Reading l.head l.file l.n

abbrev pub decreases-loop-n : goal.decreases-loop-n
decreases-loop-n l = length l.file - l.n
