use Rattle.std.proofs.Common.{◌∙◌}
use Rattle.decimal.proofs.Scans.{bounded-step, scanned-more, scanned-end}
use Rattle.decimal.proofs.scan_all.Goals as goal

pub loop-b-preserved : goal.loop-b-preserved
loop-b-preserved c = record {
  bounded = rw c.step-s.ensures (bounded-step c.loop-b.s _ c.loop-b.invariant.bounded);
  same = scanned-more c.args.text.now c.loop-b.b-index c.loop-b.s c.step-s.result
      c.loop-b-test.true c.step-s.ensures ∙ c.loop-b.invariant.same;
}

pub returns : goal.returns
returns c =
    scanned-end c.args.text.now c.loop-b.b-index c.loop-b.s c.loop-b-test.false ∙
    c.loop-b.invariant.same
