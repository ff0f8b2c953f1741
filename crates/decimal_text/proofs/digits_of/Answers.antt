use mathlib.Core.Path.{sym, ◌∙◌}
use native.Mathlib.Omega.{arith}
use Rattle.decimal_text.proofs.Shortest.{found-more, found-end, far-below, digits_same}
use Rattle.decimal_text.proofs.digits_of.Goals as goal

pub overflow_mul-number : goal.overflow_mul-number
overflow_mul-number c =
    omega (arith, far-below c.loop-step.invariant (sym c.is_far.ensures ∙ c.loop-step-test.true))

pub overflow_add-number : goal.overflow_add-number
overflow_add-number c =
    omega (
      arith,
      far-below c.loop-step.invariant (sym c.is_far.ensures ∙ c.loop-step-test.true),
      c.next_digit-step.ensures.0,
      c.loop-step.invariant.small,
    )

pub loop-step-preserved : goal.loop-step-preserved
loop-step-preserved c =
    let step = c.next_digit-step in
    found-more c.loop-step.invariant (sym c.is_far.ensures ∙ c.loop-step-test.true) step.result.digit step.result.rest
    c.wider-margin.result step.ensures c.wider-margin.ensures

pub returns : goal.returns
returns c =
    sym
    (digits_same c.args.fraction c.args.half _
    (found-end c.loop-step.invariant (sym c.is_far.ensures ∙ c.loop-step-test.false) c.nearer.result c.nearer.ensures))
