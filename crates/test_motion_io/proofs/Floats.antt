-- A number which equals itself is no NaN.
use mathlib.Core.Path.{◌≡◌, sym, subst}
use mathlib.Core.Bool.{true, not}
use lib.Dec.{T}
use lib.Ieee.{Float, nan, inf, fin, is_nan, eq}

pub equals_itself : (x : Float) → eq x x ≡ true → T (not (is_nan x))
unfolding eq is_nan
equals_itself nan e = subst T (sym e) tt
equals_itself (inf s) e = tt
equals_itself (fin s m d) e = tt
