use native.Mathlib.Omega.{arith}
use borrow.Author.Rules.{rules}
use Rattle.job_figures.proofs.Walk.{total-small, travelled-more}
use Rattle.job_figures.proofs.sum_travel.Goals as goal

pub overflow_add-travel : goal.overflow_add-travel
overflow_add-travel c =
    omega (
      arith,
      c.way-travel.ensures.1,
      c.loop-i.invariant.few,
      c.loop-i-test.true,
      c.requires.plunges,
      total-small c.args.file.now c.requires.readable
          (λ j. search rules),
    )

pub loop-i-preserved : goal.loop-i-preserved
loop-i-preserved c =
    travelled-more c.args.file.now _ _ _ _ _ c.loop-i.invariant
    (omega (arith, c.loop-i-test.true, c.requires.plunges)) c.nth_plunge-next.ensures
    c.way-travel.ensures.0 c.way-travel.ensures.1
