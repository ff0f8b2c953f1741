-- The shortest decimal of a float reads back as the float.
use mathlib.Core.Path.{◌≡◌, refl, sym, ap, ◌∙◌}
use mathlib.Core.Bool.{Bool, true, false, cond}
use Prim.Native.Nat.{ℕ, zero, suc, ◌+◌, ◌-◌, ◌*◌, ◌/◌, ◌%◌, ◌^◌, ◌≤◌, ◌<◌}
use native.Mathlib.Nat.{add-mul, mul_assoc, mul_comm, mul_left_comm, mul_right_comm, mul-le-mul, mul-le-mul_right, mul-lt-mul_of_pos_right, suc-mul, mul-pos, mod-lt, mod-eq_of_lt, div-add-mod', le_of_lt, lt_of_le_of_lt}
use native.Mathlib.Omega.{arith}
use borrow.Author.Tests.{leb-true, leb-false, lt-leb, ne_eqb, eqb-true, eqb-false}
use lib.Dec.{eqb, leb, lit<, lit≤}
use lib.Pow.{pow-add, pow_pos, pow_mono}
use lib.Ieee.{binary64, odd, round, of_fields, of_bits}
use Rattle.decimal_text.specs.declared.Digits.{Digits}
use Rattle.decimal_text.specs.Digits.{one, size_in, quarter_gap, half_gap, parts_of}
use Rattle.decimal_text.specs.Text.{parts_in}
use Rattle.decimal_text.specs.Shortest.{Shortest}
use Rattle.decimal.proofs.Scans.{ten-pos}
use Rattle.decimal_text.proofs.Sizes.{scale-is}
use Rattle.decimal_text.proofs.Nearest.{round-at, units-odd, odd-same, odd-double}

-- ---- everything in quarters of the distance between floats

-- a quarter of the distance between the floats of a field, times a denominator, in parts of the smallest float
abbrev quarter : ℕ → ℕ → ℕ
quarter field B = quarter_gap field * B * 2 ^ 1010

power-is : (a B g : ℕ) → B * (g * 2 ^ (a + 1010)) ≡ 2 ^ a * (g * B * 2 ^ 1010)
power-is a B g = rw (pow-add 2 a 1010) (simp (mul_assoc, mul_comm, mul_left_comm))

module _ (field B : ℕ) (least : 1013 ≤ field) where
  step_is : B * 2 ^ (field - 1) ≡ 4 * quarter field B
  step_is =
      let e : field - 1 ≡ field - 1013 + (2 + 1010) = omega arith in
      rw (e, pow-add 2 (field - 1013) (2 + 1010)) (power-is 2 B (quarter_gap field))

  half-step-is : B * 2 ^ (field - 2) ≡ 2 * quarter field B
  half-step-is =
      let e : field - 2 ≡ field - 1013 + (1 + 1010) = omega arith in
      rw (e, pow-add 2 (field - 1013) (1 + 1010)) (power-is 1 B (quarter_gap field))

  quarter-pos : 0 < B → 0 < quarter field B
  quarter-pos P = mul-pos (mul-pos (pow_pos (field - 1013)) P) (pow_pos 1010)

regroup : (m g B s : ℕ) → m * (4 * g) * B * s ≡ m * (4 * (g * B * s))
regroup m g B s = simp (mul_assoc, mul_left_comm)

size-quarters : (field below B : ℕ) → 1013 ≤ field → field ≤ 1042 → size_in field below * B * 2 ^ 1010 ≡ (2 ^ 52 + below) * (4 * quarter field B)
size-quarters field below B l m =
    ap (λ (x : ℕ). (2 ^ 52 + below) * x * B * 2 ^ 1010) (sym (scale-is field l m)) ∙ regroup (2 ^ 52 + below) (quarter_gap field) B (2 ^ 1010)

-- a number within half of a float, times the denominator
module _ (whole fraction half number B all : ℕ) (v : whole * one + fraction ≡ all) where
  near_up : number * one < (fraction + half) * B → (whole * B + number) * one < all * B + half * B
  near_up h = rw (← v) (omega (arith, h, add-mul fraction half B, add-mul (whole * one) fraction B, mul_right_comm whole one B))

  near_down : fraction * B < number * one + half * B → all * B < (whole * B + number) * one + half * B
  near_down h = rw (← v) (omega (arith, h, add-mul (whole * one) fraction B, mul_right_comm whole one B))

scaled : (N X H s : ℕ) → 0 < s → N * one < X + H → N * (one * s) < X * s + H * s
scaled N X H s S h = rw (← mul_assoc N one s, ← add-mul X H s) (mul-lt-mul_of_pos_right h S)

scaled-down : (N X H s : ℕ) → 0 < s → X < N * one + H → X * s < N * (one * s) + H * s
scaled-down N X H s S h = rw (← mul_assoc N one s, ← add-mul (N * one) H s) (mul-lt-mul_of_pos_right h S)

-- ---- the rounding

-- no overflow
room : (q k : ℕ) → q ≤ 2 ^ 53 → k ≤ 1041 → q * 2 ^ k < 2 ^ 2098
room q k h l = lt_of_le_of_lt (mul-le-mul h (pow_mono l)) (lit< tt)

-- the bounds of a rounding, with n for a number in parts of the smallest float
from_low : (n w below : ℕ) → 0 < below → (2 ^ 52 + below) * (4 * w) < n + 2 * w → 2 ^ 52 * (4 * w) ≤ n
from_low n w below z k = omega (arith, mul-le-mul_right (4 * w) z, add-mul (2 ^ 52) below (4 * w))

to_high : (n w below : ℕ) → below < 2 ^ 52 → 0 < w → n < (2 ^ 52 + below) * (4 * w) + 2 * w → n < 2 ^ 53 * (4 * w)
to_high n w below b W h = omega (arith, mul-le-mul_right (4 * w) b, suc-mul below (4 * w), add-mul (2 ^ 52) below (4 * w))

twice-below : (n w m : ℕ) → m < n + 2 * w → 2 * m < 2 * n + 4 * w
twice-below n w m h = omega arith

twice-above : (n w m : ℕ) → n < m + 2 * w → 2 * n < 2 * m + 4 * w
twice-above n w m h = omega arith

more : (a b w : ℕ) → a < b + w → a < b + 2 * w
more a b w h = omega arith

top-high : (n w : ℕ) → n < 2 ^ 52 * (4 * w) + w → n < 2 ^ 53 * (4 * w)
top-high n w h = omega arith

half-low : (n w : ℕ) → 2 ^ 52 * (4 * w) < n + w → 2 ^ 52 * (2 * w) ≤ n
half-low n w h = omega arith

half_high : (n w : ℕ) → n < 2 ^ 52 * (4 * w) → n < 2 ^ 53 * (2 * w)
half_high n w h = omega arith

half-below : (n w : ℕ) → 2 ^ 52 * (4 * w) < n + w → 2 * (2 ^ 53 * (2 * w)) < 2 * n + 2 * w
half-below n w h = omega arith

half-above : (n w : ℕ) → 0 < w → n < 2 ^ 52 * (4 * w) → 2 * n < 2 * (2 ^ 53 * (2 * w)) + 2 * w
half-above n w W h = omega arith

some-digits : (below : ℕ) → 0 < 2 ^ 52 + below
some-digits below = omega arith

few-digits : (below : ℕ) → below < 2 ^ 52 → 2 ^ 52 + below < 2 ^ 53
few-digits below h = omega arith

shift-most : (field : ℕ) → field ≤ 1042 → field - 1 ≤ 1041
shift-most field h = omega arith

shift-less : (field : ℕ) → field ≤ 1042 → field - 2 ≤ 1041
shift-less field h = omega arith

next-shift : (field : ℕ) → 1013 ≤ field → suc (field - 2) ≡ field - 1
next-shift field h = omega arith

-- between two powers of two
inner : (field below B N w : ℕ) → 0 < B → 1013 ≤ field → field ≤ 1042 → below < 2 ^ 52 → 0 < below → 0 < w → B * 2 ^ (field - 1) ≡ 4 * w
    → N * 2 ^ 1074 < (2 ^ 52 + below) * (4 * w) + 2 * w → (2 ^ 52 + below) * (4 * w) < N * 2 ^ 1074 + 2 * w
    → round binary64 false N B ≡ odd 53 false (2 ^ 52 + below) (field - 1) 1074
inner field below B N w P l m b z W u h k =
    round-at N B (2 ^ 52 + below) (field - 1) P
    (rw u (from_low (N * 2 ^ 1074) w below z k))
    (rw u (to_high (N * 2 ^ 1074) w below b W h))
    (rw u (twice-below (N * 2 ^ 1074) w ((2 ^ 52 + below) * (4 * w)) k))
    (rw u (twice-above (N * 2 ^ 1074) w ((2 ^ 52 + below) * (4 * w)) h))
    ∙ units-odd (2 ^ 52 + below) (field - 1) (room (2 ^ 52 + below) (field - 1) (le_of_lt (few-digits below b)) (shift-most field m))
    ∙ odd-same (2 ^ 52 + below) (field - 1) (some-digits below) (few-digits below b)

-- at a power of two, from above or from below
outer : (field B N w : ℕ) → 0 < B → 1013 ≤ field → field ≤ 1042 → 0 < w → B * 2 ^ (field - 1) ≡ 4 * w → B * 2 ^ (field - 2) ≡ 2 * w
    → N * 2 ^ 1074 < 2 ^ 52 * (4 * w) + w → 2 ^ 52 * (4 * w) < N * 2 ^ 1074 + w
    → round binary64 false N B ≡ odd 53 false (2 ^ 52) (field - 1) 1074
outer field B N w P l m W u v h k = go (leb (2 ^ 52 * (4 * w)) (N * 2 ^ 1074)) refl
  where
    go : (t : Bool) → leb (2 ^ 52 * (4 * w)) (N * 2 ^ 1074) ≡ t → round binary64 false N B ≡ odd 53 false (2 ^ 52) (field - 1) 1074
    go true e =
        let a : 2 ^ 52 * (4 * w) ≤ N * 2 ^ 1074 = leb-true (2 ^ 52 * (4 * w)) (N * 2 ^ 1074) e in
        round-at N B (2 ^ 52) (field - 1) P
        (rw u a)
        (rw u (top-high (N * 2 ^ 1074) w h))
        (rw u (twice-below (N * 2 ^ 1074) w (2 ^ 52 * (4 * w)) (more (2 ^ 52 * (4 * w)) (N * 2 ^ 1074) w k)))
        (rw u (twice-above (N * 2 ^ 1074) w (2 ^ 52 * (4 * w)) (more (N * 2 ^ 1074) (2 ^ 52 * (4 * w)) w h)))
        ∙ units-odd (2 ^ 52) (field - 1) (room (2 ^ 52) (field - 1) (lit≤ tt) (shift-most field m))
        ∙ odd-same (2 ^ 52) (field - 1) (lit< tt) (lit< tt)
    go false e =
        let a : N * 2 ^ 1074 < 2 ^ 52 * (4 * w) = leb-false (2 ^ 52 * (4 * w)) (N * 2 ^ 1074) e in
        round-at N B (2 ^ 53) (field - 2) P
        (rw v (half-low (N * 2 ^ 1074) w k))
        (rw v (half_high (N * 2 ^ 1074) w a))
        (rw v (half-below (N * 2 ^ 1074) w k))
        (rw v (half-above (N * 2 ^ 1074) w W a))
        ∙ units-odd (2 ^ 53) (field - 2) (room (2 ^ 53) (field - 2) (lit≤ tt) (shift-less field m))
        ∙ odd-double (field - 2)
        ∙ ap (λ (j : ℕ). odd 53 false (2 ^ 52) j 1074) (next-shift field l)

positive : (n : ℕ) → (n ≡ 0 → ⊥) → 0 < n
positive n h = omega (arith, h)

-- ---- the float of an exponent field and digits

of-fields : (x t : ℕ) → 0 < x → x ≤ 1042 → of_fields binary64 false x t ≡ odd 53 false (2 ^ 52 + t) (x - 1) 1074
unfolding of_fields
of-fields zero t p h = absurd (omega arith)
of-fields (suc x) t p h =
    let e : suc x - 1 ≡ x = omega arith in
    rw (ne_eqb (suc x) 2047 (λ z. omega arith), e)

bits_below : (bits : ℕ) → bits / 2 ^ 52 ≤ 1042 → bits < 2 ^ 63
bits_below bits h = omega arith

fields-are : (bits : ℕ) → 1013 ≤ bits / 2 ^ 52 → bits / 2 ^ 52 ≤ 1042 → of_bits binary64 bits ≡ odd 53 false (2 ^ 52 + bits % 2 ^ 52) (bits / 2 ^ 52 - 1) 1074
unfolding of_bits
fields-are bits l m =
    rw (lt-leb (2 ^ 63) bits (bits_below bits m), mod-eq_of_lt (bits_below bits m))
    (of-fields (bits / 2 ^ 52) (bits % 2 ^ 52) (omega arith) m)

-- ---- reading back

module _ (field below whole fraction half number B : ℕ) (P : 0 < B) (least : 1013 ≤ field) (most : field ≤ 1042) (small : below < 2 ^ 52)
    (v : whole * one + fraction ≡ size_in field below)
    (up : number * one < (fraction + half) * B) (down : fraction * B < number * one + half * B) where
  above : (whole * B + number) * 2 ^ 1074 < (2 ^ 52 + below) * (4 * quarter field B) + half * B * 2 ^ 1010
  above =
      rw (← size-quarters field below B least most)
      (scaled (whole * B + number) (size_in field below * B) (half * B) (2 ^ 1010) (pow_pos 1010)
      (near_up whole fraction half number B (size_in field below) v up))

  beneath : (2 ^ 52 + below) * (4 * quarter field B) < (whole * B + number) * 2 ^ 1074 + half * B * 2 ^ 1010
  beneath =
      rw (← size-quarters field below B least most)
      (scaled-down (whole * B + number) (size_in field below * B) (half * B) (2 ^ 1010) (pow_pos 1010)
      (near_down whole fraction half number B (size_in field below) v down))

  rounds : half ≡ half_gap field below
      → round binary64 false (whole * B + number) B ≡ odd 53 false (2 ^ 52 + below) (field - 1) 1074
  rounds e = go (eqb below 0) refl e
    where
      go : (b : Bool) → eqb below 0 ≡ b → half ≡ cond b (quarter_gap field) (2 * quarter_gap field)
          → round binary64 false (whole * B + number) B ≡ odd 53 false (2 ^ 52 + below) (field - 1) 1074
      go true z h =
          let o : below ≡ 0 = eqb-true below 0 z in
          rw o
          (outer field B (whole * B + number) (quarter field B) P least most (quarter-pos field B least P) (step_is field B least) (half-step-is field B least)
          (rw (o, h) at above)
          (rw (o, h) at beneath))
      go false z h =
          let q : 2 * quarter_gap field * B * 2 ^ 1010 ≡ 2 * quarter field B =
          rw (mul_assoc 2 (quarter_gap field) B, mul_assoc 2 (quarter_gap field * B) (2 ^ 1010)) in
          inner field below B (whole * B + number) (quarter field B) P least most small (positive below (eqb-false below 0 z))
          (quarter-pos field B least P) (step_is field B least)
          (rw (h, q) at above)
          (rw (h, q) at beneath)

-- the shortest decimal of the float with these bits reads back as it
pub reads-back : (bits : ℕ) (d : Digits) → 1013 ≤ bits / 2 ^ 52 → bits / 2 ^ 52 ≤ 1042 → Shortest (parts_in bits).fraction (parts_in bits).half d
    → round binary64 false ((parts_in bits).whole * 10 ^ d.count + d.number) (10 ^ d.count) ≡ of_bits binary64 bits
unfolding parts_of
reads-back bits d l m s =
    rounds (bits / 2 ^ 52) (bits % 2 ^ 52)
    (parts_in bits).whole (parts_in bits).fraction (parts_in bits).half d.number (10 ^ d.count)
    (ten-pos d.count) l m (mod-lt bits (lit< tt))
    (div-add-mod' (size_in (bits / 2 ^ 52) (bits % 2 ^ 52)) one)
    s.within.0 s.within.1 refl
    ∙ sym (fields-are bits l m)
