-- Laws of the loops over a file: whitespace and comments, digits, samples within the largest value; one byte more, a byte that ends it, the end.
use mathlib.Core.Path.{◌≡◌, sym, ap, ◌∙◌}
use mathlib.Core.Bool.{Bool, true, false, cond}
use mathlib.Core.List.{List, [], ◌∷◌}
use Prim.Native.Nat.{ℕ, suc, ◌+◌, ◌-◌, ◌*◌, ◌≤◌, ◌<◌, min}
use native.Mathlib.Numerals.{add-one}
use native.Mathlib.Omega.{arith}
use borrow.Author.Tests.{le-leb, lt-leb}
use lib.Dec.{leb}
use lib.ListN.{length, get_or, drop, drop_of_length-le}
use lib.Seq.{drop-cons}
use Rattle.decimal.specs.Decimal.{is_digit}
use Rattle.pgm.specs.Pgm.{in_gap, in_comment, gap, digits, largest_number, number_from, number_at, count_within}

-- ---- whitespace and comments

module _ (l : List ℕ) (comment : Bool) (i : ℕ) where
  pub gap_more : i < length l → in_gap comment (get_or l i 0) ≡ true
      → i + 1 + gap (in_comment comment (get_or l i 0)) (drop (i + 1) l) ≡ i + gap comment (drop i l)
  unfolding gap
  gap_more h e =
      let z : gap comment (drop i l) ≡ suc (gap (in_comment comment (get_or l i 0)) (drop (i + 1) l)) = rw (add-one i, drop-cons l i 0 h, e) in
      omega (arith, z)

  pub gap-stop : i < length l → in_gap comment (get_or l i 0) ≡ false → i ≡ i + gap comment (drop i l)
  unfolding gap
  gap-stop h e =
      let z : gap comment (drop i l) ≡ 0 = rw (drop-cons l i 0 h, e) in
      omega (arith, z)

  pub gap-ended : length l ≤ i → i ≡ i + gap comment (drop i l)
  unfolding gap
  gap-ended h =
      let z : gap comment (drop i l) ≡ 0 = rw (drop_of_length-le l h) in
      omega (arith, z)

-- ---- digits

-- a number is read up to the place end
pub record Reads (f : List ℕ) (at value end : ℕ) : Type 0 where
  pub small : value ≤ largest_number
  pub number : number_from value (drop end f) ≡ number_from 0 (drop at f)
  pub place : end + digits (drop end f) ≡ at + digits (drop at f)

module _ (f : List ℕ) (at value end : ℕ) (r : Reads f at value end) where
  pub reads_more : end < length f → is_digit (get_or f end 0) ≡ true → (v : ℕ) → v ≡ min (10 * value + (get_or f end 0 - 48)) largest_number
      → Reads f at v (end + 1)
  unfolding number_from digits
  reads_more h e v g =
      let n : number_from value (drop end f) ≡ number_from (min (10 * value + (get_or f end 0 - 48)) largest_number) (drop (end + 1) f) =
      rw (add-one end, drop-cons f end 0 h, e) in
      let d : digits (drop end f) ≡ suc (digits (drop (end + 1) f)) = rw (add-one end, drop-cons f end 0 h, e) in
      record {
        small = omega (arith, g);
        number = ap (λ (k : ℕ). number_from k (drop (end + 1) f)) g ∙ sym n ∙ r.number;
        place = omega (arith, d, r.place);
      }

  pub reads-stop : end < length f → is_digit (get_or f end 0) ≡ false → record { at = at; value = value; end = end } ≡ number_at f at
  unfolding number_from digits
  reads-stop h e =
      let n : number_from value (drop end f) ≡ value = rw (drop-cons f end 0 h, e) in
      let d : digits (drop end f) ≡ 0 = rw (drop-cons f end 0 h, e) in
      let v : value ≡ number_from 0 (drop at f) = sym n ∙ r.number in
      let p : end ≡ at + digits (drop at f) = omega (arith, d, r.place) in
      rw (← v, ← p)

  pub reads-ended : length f ≤ end → (k : ℕ) → k ≡ end → record { at = at; value = value; end = k } ≡ number_at f at
  unfolding number_from digits
  reads-ended h k e =
      let n : number_from value (drop end f) ≡ value = rw (drop_of_length-le f h) in
      let d : digits (drop end f) ≡ 0 = rw (drop_of_length-le f h) in
      let v : value ≡ number_from 0 (drop at f) = sym n ∙ r.number in
      let p : k ≡ at + digits (drop at f) = omega (arith, d, r.place) in
      rw (← v, ← p)

-- ---- samples

module _ (l : List ℕ) (most i : ℕ) where
  pub within_more : i < length l → get_or l i 0 ≤ most → i + 1 + count_within most (drop (i + 1) l) ≡ i + count_within most (drop i l)
  unfolding count_within
  within_more h g =
      let z : count_within most (drop i l) ≡ suc (count_within most (drop (i + 1) l)) = rw (add-one i, drop-cons l i 0 h, le-leb (get_or l i 0) most g) in
      omega (arith, z)

  pub within-stop : i < length l → most < get_or l i 0 → i ≡ i + count_within most (drop i l)
  unfolding count_within
  within-stop h g =
      let z : count_within most (drop i l) ≡ 0 = rw (drop-cons l i 0 h, lt-leb (get_or l i 0) most g) in
      omega (arith, z)

  pub within-ended : length l ≤ i → i ≡ i + count_within most (drop i l)
  unfolding count_within
  within-ended h =
      let z : count_within most (drop i l) ≡ 0 = rw (drop_of_length-le l h) in
      omega (arith, z)

-- no more samples than there are
pub within-most : (most : ℕ) (l : List ℕ) → count_within most l ≤ length l
unfolding count_within
within-most most [] = omega arith
within-most most (b ∷ l) = go (leb b most) (within-most most l)
  where
    go : (t : Bool) → count_within most l ≤ length l → cond t (suc (count_within most l)) 0 ≤ suc (length l)
    go true h = omega arith
    go false h = omega arith
