use mathlib.Core.Path.{sym, ap, ◌∙◌}
use native.Mathlib.Omega.{arith}
use Prim.Native.Nat.{◌+◌}
use lib.ListN.{drop}
use Rattle.pgm.specs.Pgm.{gap}
use Rattle.pgm.proofs.Scanning.{gap_more, gap-stop, gap-ended}
use Rattle.pgm.proofs.gap_end.Goals as goal

pub returns : goal.returns
returns c =
    let e = gap-ended c.args.file.now c.loop-i.comment c.loop-i.i c.loop-i-test.false ∙ c.loop-i.invariant.same in
    omega (arith, e, c.loop-i.invariant.within)

pub returns-then-not-in_gap : goal.returns-then-not-in_gap
returns-then-not-in_gap c =
    gap-stop c.args.file.now c.loop-i.comment c.loop-i.i c.loop-i-test.true
    (sym c.in_gap.ensures ∙ c.if-not-in_gap.true) ∙ c.loop-i.invariant.same

pub loop-i-preserved : goal.loop-i-preserved
loop-i-preserved c = record {
  within = omega arith;
  same = ap (λ t. c.loop-i.i + 1 + gap t (drop (c.loop-i.i + 1) c.args.file.now))
      c.in_comment-comment.ensures ∙ gap_more c.args.file.now c.loop-i.comment c.loop-i.i
      c.loop-i-test.true (sym c.in_gap.ensures ∙ c.if-not-in_gap.false) ∙
      c.loop-i.invariant.same;
}
