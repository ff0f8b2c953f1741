-- `travel_to` rounds the product, then the sum.
use mathlib.Core.Path.{refl}
use Rattle.motion_floats.proofs.travel_to.Goals as goal

pub returns : goal.returns
returns c = refl
