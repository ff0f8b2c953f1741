use mathlib.Core.Path.{◌≡◌}
use Prim.Native.Nat.{◌<◌}
use native.Mathlib.Omega.{arith}
use borrow.Author.Rules.{rules}
use lib.ListN.{get_or, take}
use lib.Seq.{get_or-take, length-take-le}
use Rattle.erosion_maps.proofs.Answers.{sum_more}
use Rattle.erosion_maps.proofs.depth_sum.Goals as goal

pub loop-depth-preserved : goal.loop-depth-preserved
loop-depth-preserved c =
    let n = c.loop-depth.depth-index in
    let m = c.args.relief.now in
    let within : n < c.args.count = omega (arith, length-take-le c.args.count m c.requires.0, c.loop-depth-test.true) in
    let item : get_or (take c.args.count m) n 0 ≡ get_or m n 0 = get_or-take c.args.count m n 0 within in
    let byte : get_or m n 0 < 256 = search rules in (
      omega (arith, c.loop-depth.invariant.0, item, sum_more m n (omega arith)),
      omega (arith, c.loop-depth.invariant.1, item, byte),
    )
