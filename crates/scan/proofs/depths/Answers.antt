-- `depths` gives the part behind three bytes, none of a shorter scan.
use native.Mathlib.Omega.{arith}
use Rattle.scan.proofs.Parts.{part-rest, part_none}
use Rattle.scan.proofs.depths.Goals as goal

pub returns-then-scan-lt3 : goal.returns-then-scan-lt3
returns-then-scan-lt3 c = part_none c.args.scan.now 3 (omega arith)

pub returns-else-scan-lt3 : goal.returns-else-scan-lt3
returns-else-scan-lt3 c = part-rest c.args.scan.now 3
