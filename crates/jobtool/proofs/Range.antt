-- The range of the millimetres, which `motions-printable` proves of every motion, is the range in which a number's text is its shortest decimal.
use mathlib.Core.Path.{◌≡◌, refl}
use lib.Ieee.{Float}
use Rattle.motion_floats.proofs.Bounds.{printable}
use Rattle.decimal_text.specs.Text.{in_decimal_range}

pub same-range : (x : Float) → printable x ≡ in_decimal_range x
same-range x = refl
