use Prim.Native.Nat.{max}
use mathlib.Core.Path.{◌≡◌}
use Rattle.std.proofs.Common.{rules}
use Rattle.drawing_box.proofs.Rooms.{told-reach}
use Rattle.drawing.proofs.Files.{ranges-none, ranges_more}
use Rattle.drawing.proofs.find_ranges.Goals as goal

pub loop-i-init : goal.loop-i-init
loop-i-init c = ranges-none _ _ _ c.requires.2 c.requires.3

pub loop-i-preserved : goal.loop-i-preserved
loop-i-preserved c =
    let small = told-reach _ _ _ c.requires.0 c.requires.1 _ c.loop-i-test.true _ c.reach_at-reach.ensures in
    let top : c.max-top.result ≡ max c.loop-i.top c.reach_at-reach.result = search rules in
    ranges_more _ _ _ _ _ _ _ _ c.loop-i.invariant c.reach_at-reach.ensures small c.start_of.ensures top
