-- A float literal of the code, by its bits, is the whole number that a definition writes.
use mathlib.Core.Path.{◌≡◌, refl}
use lib.Ieee.{binary64, of_bits, of_int}
use Rattle.sink.specs.Sink.{whole}

pub literal-0 : of_bits binary64 0 ≡ whole 0
unfolding of_bits of_int
literal-0 = refl

pub literal-4 : of_bits binary64 0x4010_0000_0000_0000 ≡ whole 4
unfolding of_bits of_int
literal-4 = refl

pub literal-1000 : of_bits binary64 0x408f_4000_0000_0000 ≡ whole 1000
unfolding of_bits of_int
literal-1000 = refl
