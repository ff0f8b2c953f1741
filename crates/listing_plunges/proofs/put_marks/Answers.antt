use mathlib.Core.Path.{ap}
use Prim.Native.Nat.{ℕ, ◌+◌}
use Rattle.listing_plunges.proofs.Marks.{noted-at, put-room, put-more, put-end, bounded-fits}
use Rattle.listing_plunges.proofs.put_marks.Goals as goal

pub noted_plunge-q-requires : goal.noted_plunge-q-requires
noted_plunge-q-requires c =
    noted-at c.args.size _ _ _ _ c.loop-j.invariant.0 _ c.loop-j-test.true

pub put_plunge-requires : goal.put_plunge-requires
put_plunge-requires c = (
  put-room _ _ _ _ _ c.loop-j.invariant.0 _ _ _ _ _ c.loop-j.invariant.1 c.requires.1
      c.loop-j-test.true,
  bounded-fits _ _ c.noted_plunge-q.ensures.1,
)

pub loop-j-preserved : goal.loop-j-preserved
loop-j-preserved c = (
  c.loop-j.invariant.0,
  put-more _ _ _ _ _ c.loop-j.invariant.0 _ _ _ _ _ c.loop-j.invariant.1 c.requires.1
      c.loop-j-test.true _ _ _ c.noted_plunge-q.ensures.0
      c.put_plunge.ensures (ap (λ (k : ℕ). c.loop-j.place + k) c.plunge_bytes-place.ensures),
)

pub returns : goal.returns
returns c =
    let e =
    put-end _ _ _ _ _ c.loop-j.invariant.0 _ _ _ _ _ c.loop-j.invariant.1 c.requires.1
    c.loop-j-test.false in
    (e.0, e.1, c.loop-j.invariant.0.size)
