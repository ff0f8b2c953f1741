-- `motions_of` gives the three motions in their order.
use Rattle.motion_floats.proofs.motions_of.Goals as goal

pub returns : goal.returns
returns c =
    simp (
      c.change_or_stay-first.ensures,
      c.travel_to-x.ensures,
      c.travel_to-y.ensures,
      c.sink_of-z.ensures,
    )
