-- `common_run` counts byte after byte: the bytes so far are common, and those that follow are so as far as they are.
use mathlib.Core.Path.{◌≡◌}
use Prim.Native.Nat.{◌+◌}
use lib.ListN.{drop}
use Rattle.geometry.specs.Lists.{common}
use Rattle.listing_pass.proofs.common_run.Given as goal

abbrev pub invariant-loop-i : goal.invariant-loop-i
invariant-loop-i l = common (drop l.at l.file) l.bytes ≡ l.i + common (drop (l.at + l.i) l.file) (drop l.i l.bytes)
