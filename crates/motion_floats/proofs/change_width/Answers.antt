-- `change_width` rounds once.
use mathlib.Core.Path.{refl}
use Rattle.motion_floats.proofs.change_width.Goals as goal

pub returns : goal.returns
returns c = refl
