-- `depth_sum` adds byte by byte: the invariant is the sum of those passed.
use Prim.Native.Nat.{◌*◌, ◌≤◌}
use mathlib.Core.Path.{◌≡◌}
use lib.ListN.{take}
use Rattle.geometry.specs.Lists.{sum}
use Rattle.erosion_maps.proofs.depth_sum.Given as goal

abbrev pub invariant-loop-depth : goal.invariant-loop-depth
invariant-loop-depth l = (l.total ≡ sum (take l.depth-index l.relief)) × (l.total ≤ 255 * l.depth-index)
