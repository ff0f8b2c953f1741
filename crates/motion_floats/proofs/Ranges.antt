-- What is in a range and what is not: not a number, infinities, and zero below zero.
use mathlib.Core.Path.{◌≡◌, refl}
use mathlib.Core.Bool.{true, false}
use lib.Ieee.{Float, nan, inf, fin, of_int, div, le, lt, eq, neg}
use Rattle.sink.specs.Sink.{whole}
use Rattle.motion_floats.specs.Floats.{within, sixteenth}

-- "not a number" is in no range
pub nan-out : (a b : Float) → within a b nan ≡ false
unfolding le lt eq
nan-out nan b = refl
nan-out (inf s) b = refl
nan-out (fin s m e) b = refl

pub infinity-out : within (whole 0) (whole 1000) (inf false) ≡ false
unfolding le lt eq of_int
infinity-out = refl

-- −0.0 is 0: in an offset's range, and not in the half pitch's
pub negative-zero-offset : within (whole 0) (whole 1000) (neg (whole 0)) ≡ true
unfolding le lt eq of_int neg
negative-zero-offset = refl

pub negative-zero-pitch : within sixteenth (whole 4) (neg (whole 0)) ≡ false
unfolding le lt eq of_int neg div
negative-zero-pitch = refl
