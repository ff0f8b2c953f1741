use mathlib.Core.Path.{refl, sym, ◌∙◌}
use native.Mathlib.Omega.{arith}
use Rattle.pgm.proofs.Scanning.{reads_more, reads-stop, reads-ended}
use Rattle.pgm.proofs.number_at.Goals as goal

pub loop-end-init : goal.loop-end-init
loop-end-init c = record { within = omega arith; read = record { small = omega arith; number = refl; place = refl } }

pub returns : goal.returns
returns c =
    reads-ended c.args.file.now c.args.at c.loop-end.value c.loop-end.end
    c.loop-end.invariant.read c.loop-end-test.false _ (omega (arith, c.max-end.ensures, c.loop-end.invariant.within))

pub returns-then-not-is_digit : goal.returns-then-not-is_digit
returns-then-not-is_digit c =
    reads-stop c.args.file.now c.args.at c.loop-end.value c.loop-end.end
    c.loop-end.invariant.read c.loop-end-test.true
    (sym c.is_digit.ensures ∙ c.if-not-is_digit.true)

pub loop-end-preserved : goal.loop-end-preserved
loop-end-preserved c = record {
  within = omega arith;
  read = reads_more c.args.file.now c.args.at c.loop-end.value c.loop-end.end
      c.loop-end.invariant.read c.loop-end-test.true
      (sym c.is_digit.ensures ∙ c.if-not-is_digit.false) c.with_digit-value.result
      c.with_digit-value.ensures;
}
