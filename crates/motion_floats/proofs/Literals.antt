-- The code's 0.0625, by its bits, is what the definition writes.
use mathlib.Core.Path.{◌≡◌, refl}
use lib.Ieee.{binary64, of_bits, of_int, div}
use Rattle.motion_floats.specs.Floats.{sixteenth}

pub literal-sixteenth : of_bits binary64 0x3fb0_0000_0000_0000 ≡ sixteenth
unfolding of_bits of_int div
literal-sixteenth = refl
