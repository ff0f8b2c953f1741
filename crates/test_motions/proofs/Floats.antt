-- What the tests on bits tell: that they are a NaN's or not.
use mathlib.Core.Path.{◌≡◌, refl, sym, subst}
use mathlib.Core.Bool.{Bool, false, not, ◌&&◌}
use Prim.Native.Nat.{ℕ, ◌%◌, ◌/◌}
use lib.Dec.{T, eqb}
use lib.Ieee.{binary64, nan_bits}
use borrow.Author.Tests.{eq-eqb, ne_eqb}

-- With all ones in the exponent's field, bits are a NaN's where some digit below is not 0.
pub bits-ones : (b : ℕ) → b % 9223372036854775808 / 4503599627370496 ≡ 2047 → not (eqb (b % 4503599627370496) 0) ≡ nan_bits binary64 b
unfolding nan_bits
bits-ones b e = subst (λ t. not (eqb (b % 4503599627370496) 0) ≡ t && not (eqb (b % 4503599627370496) 0)) (sym (eq-eqb _ _ e)) refl

-- With another field they are a number's.
pub bits-number : (b : ℕ) → (b % 9223372036854775808 / 4503599627370496 ≡ 2047 → ⊥) → false ≡ nan_bits binary64 b
unfolding nan_bits
bits-number b e = subst (λ t. false ≡ t && not (eqb (b % 4503599627370496) 0)) (sym (ne_eqb _ _ e)) refl

pub not-nan-bits : (b : ℕ) → (r : Bool) → r ≡ nan_bits binary64 b → r ≡ false → T (not (nan_bits binary64 b))
not-nan-bits b r e f = subst (λ t. T (not t)) e (subst (λ t. T (not t)) (sym f) tt)
