-- A float's whole part, fraction and half gap, from its exponent field and its digits below the leading one.
use mathlib.Core.Path.{◌≡◌, sym, ap, ◌∙◌}
use mathlib.Core.Bool.{Bool, true, false, cond}
use Prim.Native.Nat.{ℕ, ◌+◌, ◌-◌, ◌*◌, ◌/◌, ◌%◌, ◌^◌, ◌≤◌, ◌<◌}
use native.Mathlib.Nat.{add-mul, mul_assoc, one-mul, mod-lt, div-add-mod', div-lt_iff_lt-mul, mul-lt-mul_of_pos_right, mul-le-mul_left, mul-le-mul_right, suc-mul, lt_of_lt_of_le}
use native.Mathlib.Omega.{arith}
use lib.Dec.{eqb, lit<}
use lib.Arith.{digits_div, digits_mod}
use lib.Pow.{pow-add, pow_pos, pow_mono, shl_exact}
use Rattle.decimal_text.specs.declared.Parts.{Parts}
use Rattle.decimal_text.specs.Digits.{one, size_in, quarter_gap, half_gap, parts_of}

pub shifted_one : (n : ℕ) → n < 64 → 1 * 2 ^ n % 2 ^ 64 ≡ 2 ^ n
shifted_one n h = shl_exact 1 n 64 (lit< tt) (omega arith) ∙ one-mul (2 ^ n)

divided : (s cut w : ℕ) → s * w ≡ s / cut * (cut * w) + s % cut * w
divided s cut w = ap (λ (x : ℕ). x * w) (sym (div-add-mod' s cut)) ∙ add-mul (s / cut * cut) (s % cut) w ∙ ap (λ (x : ℕ). x + s % cut * w)
    (mul_assoc (s / cut) cut w)

-- what is left over a cut, and one unit more, are within what the cut makes
left_over : (s cut w : ℕ) → 0 < cut → cut * w ≡ one → s % cut * w + w ≤ one
left_over s cut w C e = omega (arith, mul-le-mul_right w (mod-lt s C), suc-mul (s % cut) w, e)

-- a unit is a quarter of the distance between the floats of a field; a cut is how many such distances make one
module _ (field : ℕ) (least : 1013 ≤ field) (most : field ≤ 1042) where
  pub unit-most : quarter_gap field ≤ 2 ^ 29
  unit-most = let h : field - 1013 ≤ 29 = omega arith in pow_mono h

  units-in-cut : 2 ^ (1075 - field) * (4 * quarter_gap field) ≡ one
  units-in-cut =
      let e : 1075 - field + (2 + (field - 1013)) ≡ 64 = omega arith in
      ap (λ (x : ℕ). 2 ^ (1075 - field) * x) (sym (pow-add 2 2 (field - 1013))) ∙ sym (pow-add 2 (1075 - field) (2 + (field - 1013))) ∙ ap (λ (x : ℕ). 2 ^ x) e

  pub scale-is : 4 * quarter_gap field ≡ 2 ^ (field - 1011)
  scale-is = let e : 2 + (field - 1013) ≡ field - 1011 = omega arith in sym (pow-add 2 2 (field - 1013)) ∙ ap (λ (x : ℕ). 2 ^ x) e

  pub unit-room : (s : ℕ) → s % 2 ^ (1075 - field) * (4 * quarter_gap field) + 4 * quarter_gap field ≤ one
  unit-room s = left_over s (2 ^ (1075 - field)) (4 * quarter_gap field) (pow_pos (1075 - field)) units-in-cut

  left_below : (s : ℕ) → s % 2 ^ (1075 - field) * (4 * quarter_gap field) < one
  left_below s = omega (arith, unit-room s, pow_pos (field - 1013))

  size_is : (below : ℕ) → size_in field below ≡ (2 ^ 52 + below) / 2 ^ (1075 - field) * one + (2 ^ 52 + below) % 2 ^ (1075 - field) * (4 * quarter_gap field)
  size_is below =
      ap (λ (x : ℕ). (2 ^ 52 + below) * x) (sym scale-is)
      ∙ divided (2 ^ 52 + below) (2 ^ (1075 - field)) (4 * quarter_gap field)
      ∙ ap (λ (x : ℕ). (2 ^ 52 + below) / 2 ^ (1075 - field) * x + (2 ^ 52 + below) % 2 ^ (1075 - field) * (4 * quarter_gap field)) units-in-cut

  whole_is : (below : ℕ) → size_in field below / one ≡ (2 ^ 52 + below) / 2 ^ (1075 - field)
  whole_is below = ap (λ (x : ℕ). x / one) (size_is below) ∙ digits_div ((2 ^ 52 + below) / 2 ^ (1075 - field)) (left_below (2 ^ 52 + below))

  pub fraction-is : (below : ℕ) → size_in field below % one ≡ (2 ^ 52 + below) % 2 ^ (1075 - field) * (4 * quarter_gap field)
  fraction-is below = ap (λ (x : ℕ). x % one) (size_is below) ∙ digits_mod ((2 ^ 52 + below) / 2 ^ (1075 - field)) (left_below (2 ^ 52 + below))

  -- with a unit and a cut
  pub parts-fit : (s unit cut : ℕ) → unit ≡ quarter_gap field → cut ≡ 2 ^ (1075 - field) → s % cut * (4 * unit) < one
  parts-fit s unit cut u v = rw (u, v) (left_below s)

  pub parts_are : (below unit cut half : ℕ) → unit ≡ quarter_gap field → cut ≡ 2 ^ (1075 - field) → half ≡ cond (eqb below 0) unit (2 * unit)
      → ◌≡◌ {A = Parts} (record { whole = (2 ^ 52 + below) / cut; fraction = (2 ^ 52 + below) % cut * (4 * unit); half = half }) (parts_of field below)
  unfolding parts_of
  parts_are below unit cut half u v h = rw (h, u, v)
      (λ i. record { whole = sym (whole_is below) i; fraction = sym (fraction-is below) i; half = half_gap field below })

-- ---- what the parts are good for

half-most : (field below : ℕ) → half_gap field below ≤ 2 * quarter_gap field
half-most field below = go (eqb below 0)
  where
    go : (b : Bool) → cond b (quarter_gap field) (2 * quarter_gap field) ≤ 2 * quarter_gap field
    go true = omega arith
    go false = omega arith

-- the next whole number is farther than half
pub fraction-room : (field below : ℕ) → 1013 ≤ field → field ≤ 1042 → (parts_of field below).fraction + (parts_of field below).half ≤ one
unfolding parts_of
fraction-room field below l m = omega (arith, fraction-is field l m below, unit-room field l m (2 ^ 52 + below), half-most field below)

pub half_pos : (field below : ℕ) → 0 < (parts_of field below).half
unfolding parts_of
half_pos field below = go (eqb below 0)
  where
    go : (b : Bool) → 0 < cond b (quarter_gap field) (2 * quarter_gap field)
    go true = pow_pos (field - 1013)
    go false = omega (arith, pow_pos (field - 1013))

pub fraction-below : (field below : ℕ) → (parts_of field below).fraction < one
unfolding parts_of
fraction-below field below = mod-lt (size_in field below) (lit< tt)

pub whole_below : (field below : ℕ) → field ≤ 1042 → below < 2 ^ 52 → (parts_of field below).whole < 2 ^ 20
unfolding parts_of
whole_below field below m b =
    (div-lt_iff_lt-mul {k = one} (lit< tt)).1
    (lt_of_lt_of_le (mul-lt-mul_of_pos_right bound (pow_pos (field - 1011))) (le-of-most (mul-le-mul_left (2 ^ 53) power)))
  where
    bound : 2 ^ 52 + below < 2 ^ 53
    bound = omega arith

    shift : field - 1011 ≤ 31
    shift = omega arith

    power : 2 ^ (field - 1011) ≤ 2 ^ 31
    power = pow_mono shift

    le-of-most : 2 ^ 53 * 2 ^ (field - 1011) ≤ 2 ^ 53 * 2 ^ 31 → 2 ^ 53 * 2 ^ (field - 1011) ≤ 2 ^ 20 * one
    le-of-most h = omega arith
