use native.Mathlib.Omega.{arith}
use Rattle.listing_plunges.proofs.Marks.{noted-at, like-fits, like-few, like-more, like-stops, like-end, bounded-fits}
use Rattle.listing_plunges.proofs.compare_marks.Goals as goal

pub noted_plunge-q-requires : goal.noted_plunge-q-requires
noted_plunge-q-requires c =
    noted-at c.args.size _ _ _ _ c.loop-j.invariant.0 _ c.loop-j-test.true

pub compare_plunge-n-requires : goal.compare_plunge-n-requires
compare_plunge-n-requires c = (
  like-fits _ _ _ _ _ c.loop-j.invariant.0 _ _ _ _ c.loop-j.invariant.1 c.loop-j-test.true
      c.requires.1,
  bounded-fits _ _ c.noted_plunge-q.ensures.1,
)

pub overflow_add-place : goal.overflow_add-place
overflow_add-place c =
    omega (
      arith,
      like-few _ _ _ _ _ c.loop-j.invariant.0 _ _ _ _ c.loop-j.invariant.1 c.loop-j-test.true _
          c.noted_plunge-q.ensures.0 _ c.compare_plunge-n.ensures,
      like-fits _ _ _ _ _ c.loop-j.invariant.0 _ _ _ _ c.loop-j.invariant.1 c.loop-j-test.true
          c.requires.1,
    )

pub returns-then-n-plunge_bytes : goal.returns-then-n-plunge_bytes
returns-then-n-plunge_bytes c = (
  like-stops _ _ _ _ _ c.loop-j.invariant.0 _ _ _ _ c.loop-j.invariant.1 c.loop-j-test.true _
      c.noted_plunge-q.ensures.0 _ c.compare_plunge-n.ensures
      (omega (arith, c.if-n-plunge_bytes.true, c.plunge_bytes.ensures)),
  c.loop-j.invariant.0.size,
)

pub loop-j-preserved : goal.loop-j-preserved
loop-j-preserved c = (
  c.loop-j.invariant.0,
  like-more _ _ _ _ _ c.loop-j.invariant.0 _ _ _ _ c.loop-j.invariant.1 c.loop-j-test.true _
      c.noted_plunge-q.ensures.0 _ c.compare_plunge-n.ensures
      (omega (arith, c.if-n-plunge_bytes.false, c.plunge_bytes.ensures)),
)

pub returns : goal.returns
returns c = (
  like-end _ _ _ _ _ c.loop-j.invariant.0 _ _ _ _ c.loop-j.invariant.1 c.loop-j-test.false,
  c.loop-j.invariant.0.size,
)
