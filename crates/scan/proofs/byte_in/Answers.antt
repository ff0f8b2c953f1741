-- `byte_in`: past the end a list gives 0.
use mathlib.Core.Path.{sym}
use native.Mathlib.Omega.{arith}
use lib.ListN.{get_or-eq_default}
use Rattle.scan.proofs.byte_in.Goals as goal

pub returns-else-i-scan : goal.returns-else-i-scan
returns-else-i-scan c = sym (get_or-eq_default c.args.scan.now 0 (omega arith))
