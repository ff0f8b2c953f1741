-- Both fields are those of the definition.
use Rattle.test_motions.proofs.Floats.{bits-ones, bits-number}
use Rattle.test_motions.proofs.is_nan.Goals as goal

pub returns-then-bits-eq2047 : goal.returns-then-bits-eq2047
returns-then-bits-eq2047 c = bits-ones c.args.bits c.if-bits-eq2047.true

pub returns-else-bits-eq2047 : goal.returns-else-bits-eq2047
returns-else-bits-eq2047 c = bits-number c.args.bits c.if-bits-eq2047.false
