-- What was written is read again: a picture's file made of depths has their width and height, and its samples are the depths.
use Rattle.std.specs.Prelude.{Ok}
use mathlib.Core.Path.{◌≡◌, refl, sym, ap, ◌∙◌}
use mathlib.Core.Bool.{true, false}
use mathlib.Core.List.{List, [], ◌∷◌, ◌++◌, append_assoc}
use Prim.Native.Nat.{ℕ, zero, suc, ◌+◌, ◌-◌, ◌*◌, ◌^◌, ◌≤◌, ◌<◌, min}
use native.Mathlib.Omega.{arith}
use native.Mathlib.Nat.{zero-mul, add-zero}
use borrow.Author.Tests.{le-leb, lt-leb, ne_eqb}
use lib.ListN.{length, get_or, take, drop, length-drop}
use lib.Seq.{drop-drop, drop-append_seam, get_or-drop, take_all, length-take-le}
use Rattle.numerals.specs.Numerals.{digit_text, numeral, numeral_within}
use Rattle.numerals.specs.Sizes.{IsSize}
use Rattle.numerals.proofs.Sizes.{numeral-digits, numeral-size}
use Rattle.decimal.specs.Decimal.{is_digit, are_digits, value_after}
use Rattle.decimal.proofs.Scans.{digit-least}
use Rattle.decimal_text.proofs.RoundTrip.{digit-first, digit-rest, text-digits, text-value}
use Rattle.refusal.specs.Refusals.{largest_side}
use Rattle.pgm.specs.declared.Header.{Header}
use Rattle.pgm.specs.declared.Picture.{Picture}
use Rattle.pgm.specs.Pgm.{is_white, in_gap, in_comment, gap, gap_end, digits, largest_number, number_from, number_at, number_after, opens, header_in, count_within, first_fault, picture_trials, picture_of, answer_of, picture_answer}
use Rattle.pgm_copies.specs.Copies.{header_text, picture_file, scan_of}
use Rattle.pgm_copies.proofs.Copying.{header-size}
use Rattle.pgm.proofs.Checks.{Right, header_read, right-passed}

-- ---- numerals

-- a number that is read whole
abbrev Small : ℕ → Type 0
Small n = n ≤ largest_number

numeral-size-of : (n : ℕ) → Small n → IsSize n (length (numeral n))
numeral-size-of n h = numeral-size n (length (numeral n)) (omega arith) refl

numeral-text : (n : ℕ) → Small n → numeral n ≡ digit_text 10 (length (numeral n)) n
numeral-text n h = numeral-digits n (length (numeral n)) (omega arith) (numeral-size-of n h)

numeral-are-digits : (n : ℕ) → Small n → are_digits (numeral n) ≡ true
numeral-are-digits n h = ap are_digits (numeral-text n h) ∙ text-digits (length (numeral n)) n

numeral-value : (n : ℕ) → Small n → value_after 0 (numeral n) ≡ n
numeral-value n h =
    ap (value_after 0) (numeral-text n h) ∙ text-value 0 (length (numeral n)) n (numeral-size-of n h).enough
    ∙ omega (arith, zero-mul (10 ^ length (numeral n)))

-- ---- digits, and a byte that is none

value-least : (v : ℕ) (l : List ℕ) → v ≤ value_after v l
value-least v [] = omega arith
value-least v (b ∷ l) = omega (arith, value-least (10 * v + (b - 48)) l)

module _ (x : ℕ) (rest : List ℕ) (stop : is_digit x ≡ false) where
  digits-counted : (l : List ℕ) → are_digits l ≡ true → digits (l ++ x ∷ rest) ≡ length l
  unfolding digits
  digits-counted [] e = rw stop
  digits-counted (b ∷ l) e = rw (digit-first b l e) (ap suc (digits-counted l (digit-rest b l e)))

  digits-read : (l : List ℕ) (v : ℕ) → are_digits l ≡ true → value_after v l ≤ largest_number → number_from v (l ++ x ∷ rest) ≡ value_after v l
  unfolding number_from
  digits-read [] v e h = rw stop
  digits-read (b ∷ l) v e h =
      let z : min (10 * v + (b - 48)) largest_number ≡ 10 * v + (b - 48) = omega (arith, h, value-least (10 * v + (b - 48)) l) in
      rw (digit-first b l e, z) (digits-read l (10 * v + (b - 48)) (digit-rest b l e) h)

digit-no-gap : (b : ℕ) → is_digit b ≡ true → in_gap false b ≡ false
digit-no-gap b e =
    let least = digit-least b e in
    rw (ne_eqb b 32 (λ z. omega arith), le-leb 9 b (omega arith), lt-leb b 13 (omega arith), ne_eqb b 35 (λ z. omega arith))

digits-no-gap : (l rest : List ℕ) → are_digits l ≡ true → 0 < length l → gap false (l ++ rest) ≡ 0
unfolding gap
digits-no-gap [] rest e h = absurd (omega arith)
digits-no-gap (b ∷ l) rest e h = rw (digit-no-gap b (digit-first b l e))

-- ---- a number behind one byte of whitespace

module _ (f : List ℕ) (from n s x : ℕ) (rest : List ℕ) (small : Small n) (white : in_gap false s ≡ true) (plain : in_comment false s ≡ false)
    (stop : is_digit x ≡ false) (here : drop from f ≡ s ∷ (numeral n ++ x ∷ rest)) where
  behind : drop (from + 1) f ≡ numeral n ++ x ∷ rest
  behind = sym (drop-drop 1 from f) ∙ ap (drop 1) here

  one_byte : gap_end f from ≡ from + 1
  unfolding gap
  one_byte =
      let z : gap false (drop from f) ≡ suc (gap false (numeral n ++ x ∷ rest)) = rw (here, white, plain) in
      omega (arith, z, digits-no-gap (numeral n) (x ∷ rest) (numeral-are-digits n small) (numeral-size-of n small).some)

  number_read : number_after f from ≡ record { at = from + 1; value = n; end = from + 1 + length (numeral n) }
  unfolding number_after
  number_read =
      let d = numeral-are-digits n small in
      let v : value_after 0 (numeral n) ≡ n = numeral-value n small in
      let a : number_from 0 (drop (from + 1) f) ≡ n = ap (number_from 0) behind ∙ digits-read x rest stop (numeral n) 0 d (omega (arith, v)) ∙ v in
      let b : digits (drop (from + 1) f) ≡ length (numeral n) = ap digits behind ∙ digits-counted x rest stop (numeral n) d in
      ap (number_at f) one_byte ∙ rw (a, b)

  number-next : drop (from + 1 + length (numeral n)) f ≡ x ∷ rest
  number-next = sym (drop-drop (length (numeral n)) (from + 1) f) ∙ ap (drop (length (numeral n))) behind ∙ drop-append_seam (numeral n) (x ∷ rest)

-- ---- samples of 8 bits

all-within : (l : List ℕ) → ((i : ℕ) → get_or l i 0 ≤ 255) → count_within 255 l ≡ length l
unfolding count_within
all-within [] h = refl
all-within (b ∷ l) h = rw (le-leb b 255 (h 0)) (ap suc (all-within l (λ i. h (suc i))))

take_within : (n : ℕ) (l : List ℕ) → ((i : ℕ) → get_or l i 0 ≤ 255) → (i : ℕ) → get_or (take n l) i 0 ≤ 255
take_within zero l h i = omega arith
take_within (suc n) [] h i = omega arith
take_within (suc n) (b ∷ l) h zero = h 0
take_within (suc n) (b ∷ l) h (suc i) = take_within n l (λ j. h (suc j)) i

-- ---- the file that is written

most-digits : numeral 255 ≡ 50 ∷ 53 ∷ 53 ∷ []
unfolding numeral numeral_within
most-digits = refl

module _ (w h : ℕ) (d : List ℕ) where
  abbrev file : List ℕ
  file = picture_file w h d

  abbrev depths : List ℕ
  depths = take (h * w) d

  -- what follows the width, and what follows the height
  abbrev behind-height : List ℕ
  behind-height = numeral 255 ++ 10 ∷ depths

  abbrev behind-width : List ℕ
  behind-width = numeral h ++ 10 ∷ behind-height

  layout : file ≡ 80 ∷ 53 ∷ 10 ∷ (numeral w ++ 32 ∷ behind-width)
  unfolding header_text
  layout = rw most-digits (simp append_assoc)

  module _ (sw : Small w) (sh : Small h) where
    abbrev width-end : ℕ
    width-end = 2 + 1 + length (numeral w)

    abbrev height-end : ℕ
    height-end = width-end + 1 + length (numeral h)

    abbrev maxval-end : ℕ
    maxval-end = height-end + 1 + length (numeral 255)

    abbrev header : Header
    header = record {
      width = record { at = 2 + 1; value = w; end = width-end };
      height = record { at = width-end + 1; value = h; end = height-end };
      maxval = record { at = height-end + 1; value = 255; end = maxval-end };
    }

    from-width : drop 2 file ≡ 10 ∷ (numeral w ++ 32 ∷ behind-width)
    from-width = ap (drop 2) layout

    from-height : drop width-end file ≡ 32 ∷ behind-width
    from-height = number-next file 2 w 10 32 behind-width sw refl refl refl from-width

    from-maxval : drop height-end file ≡ 10 ∷ behind-height
    from-maxval = number-next file width-end h 32 10 behind-height sh refl refl refl from-height

    from-samples : drop maxval-end file ≡ 10 ∷ depths
    from-samples = number-next file height-end 255 10 10 depths (omega arith) refl refl refl from-maxval

    header-back : header_in file ≡ header
    header-back =
        sym (header_read file header.width header.height header.maxval
        (sym (number_read file 2 w 10 32 behind-width sw refl refl refl from-width))
        (sym (number_read file width-end h 32 10 behind-height sh refl refl refl from-height))
        (sym (number_read file height-end 255 10 10 depths (omega arith) refl refl refl from-maxval)))

    samples-back : drop (maxval-end + 1) file ≡ depths
    samples-back = sym (drop-drop 1 maxval-end file) ∙ ap (drop 1) from-samples

    space-back : get_or file maxval-end 0 ≡ 10
    space-back =
        ap (λ (k : ℕ). get_or file k 0) (sym (add-zero maxval-end)) ∙ sym (get_or-drop maxval-end file 0 0) ∙ ap (λ (l : List ℕ). get_or l 0 0) from-samples

    place-back : maxval-end + 1 ≡ length (header_text w h)
    place-back = omega (arith, header-size w h, ap length most-digits)

-- ---- what was written is read again

module _ (w h : ℕ) (d : List ℕ) (w-least : 1 ≤ w) (w-most : w ≤ largest_side) (h-least : 1 ≤ h) (h-most : h ≤ largest_side)
    (enough : h * w ≤ length d) (bytes : (i : ℕ) → get_or d i 0 ≤ 255) where
  sw : Small w
  sw = omega arith

  sh : Small h
  sh = omega arith

  depths-length : length (take (h * w) d) ≡ h * w
  depths-length = length-take-le (h * w) d enough

  file-right : Right (picture_file w h d) (header w h d sw sh)
  file-right =
      let back = samples-back w h d sw sh in
      let end = maxval-end w h d sw sh in
      record {
        opened = ap opens (layout w h d);
        spaced = λ z. omega arith;
        width-right = record { some = λ z. omega (arith, (numeral-size-of w sw).some); least = w-least; within = w-most };
        height-right = record { some = λ z. omega (arith, (numeral-size-of h sh).some); least = h-least; within = h-most };
        maxval-right = record { some = λ z. omega (arith, ap length most-digits); least = omega arith; within = omega arith };
        white = ap is_white (space-back w h d sw sh);
        enough = omega (arith, length-drop (end + 1) (picture_file w h d), ap length back, depths-length);
        small =
            ap (λ (l : List ℕ). count_within 255 (take (h * w) l)) back ∙ ap (count_within 255) (take_all (h * w) (take (h * w) d) (omega (arith, depths-length)))
            ∙ all-within (take (h * w) d) (take_within (h * w) d bytes) ∙ depths-length;
      }

  abbrev written : Picture
  written = record { width = w; height = h; at = length (header_text w h) }

  -- the sides come back, and the place behind the header
  pub round_trip : picture_answer (picture_file w h d) ≡ Ok written
  round_trip =
      ap (λ (k : Header). answer_of (first_fault (picture_trials (picture_file w h d) k)) (picture_of k)) (header-back w h d sw sh)
      ∙ ap (λ c. answer_of c (picture_of (header w h d sw sh))) (right-passed (picture_file w h d) (header w h d sw sh) file-right)
      ∙ ap (λ (k : ℕ). Ok (record { width = w; height = h; at = k })) (place-back w h d sw sh)

  -- and the depths: the scan of the picture is kind, width, height and the depths that were written
  pub scan-round-trip : (kind : ℕ) → scan_of (picture_file w h d) kind written ≡ kind ∷ w ∷ h ∷ take (h * w) d
  scan-round-trip kind =
      let back : drop (length (header_text w h)) (picture_file w h d) ≡ take (h * w) d = drop-append_seam (header_text w h) (take (h * w) d) in
      ap (λ (l : List ℕ). kind ∷ w ∷ h ∷ take (h * w) l) back
      ∙ ap (λ (l : List ℕ). kind ∷ w ∷ h ∷ l) (take_all (h * w) (take (h * w) d) (omega (arith, depths-length)))
