use mathlib.Core.Path.{refl}
use native.Mathlib.Omega.{arith}
use borrow.Author.Rules.{rules}
use Rattle.job_figures.proofs.ByReach.{tallied-none, tallied-few, tallied-more}
use Rattle.job_figures.proofs.Walk.{total-small}
use Rattle.job_figures.proofs.tally.Goals as goal

pub loop-i-init : goal.loop-i-init
loop-i-init c = tallied-none c.args.file.now _ _ _ c.requires.1

pub overflow_add-counts : goal.overflow_add-counts
overflow_add-counts c =
    omega (
      arith,
      tallied-few c.args.file.now c.loop-i.i _ _ _ c.loop-i.invariant
          (omega (
            arith,
            c.loop-i-test.true,
            c.requires.0.plunges,
            total-small c.args.file.now c.requires.0.readable
                (λ j. search rules),
          ))
          c.plunge_at-q.result.reach.0 c.plunge_at-q.ensures.1,
    )

pub loop-i-preserved : goal.loop-i-preserved
loop-i-preserved c =
    tallied-more c.args.file.now c.loop-i.i _ _ _ c.loop-i.invariant
    c.plunge_at-q.result _ _ _ _ c.plunge_at-q.ensures.0 refl
    c.plunge_at-q.ensures.1 refl c.min.ensures c.max.ensures
