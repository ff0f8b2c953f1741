-- Laws of a listing's file: what counting it gives, the room it takes, and its three parts written one after the other.
use Rattle.std.specs.Prelude.{Ok, Err}
use mathlib.Core.Path.{◌≡◌, refl, sym, ap, ◌∙◌}
use mathlib.Core.Bool.{true}
use mathlib.Core.List.{List, ◌++◌, append_assoc}
use Prim.Native.Nat.{ℕ, ◌+◌, ◌*◌, ◌-◌, ◌/◌, ◌≤◌, ◌<◌}
use native.Mathlib.Omega.{arith}
use borrow.Author.Tests.{lt-ltb, le-ltb, eq-eqb}
use lib.ListN.{length, take, drop, length-append}
use lib.Seq.{take-append_seam, drop_at, length-take-le}
use Rattle.geometry.specs.declared.Head.{Head}
use Rattle.geometry.specs.declared.Plunge.{Plunge}
use Rattle.geometry.specs.Sizes.{size_of}
use Rattle.theory.specs.Climbed.{erosion_count}
use Rattle.theory.specs.Listing.{listing}
use Rattle.refusal.specs.Refusals.{largest_erosion}
use Rattle.fields.specs.Fields.{head_field, plunge_fields, end_field, file_length, encoded, plunge_bytes, place}
use Rattle.fields.specs.Writing.{spliced}
use Rattle.fields.proofs.Splice.{splice-length, splice-start, splice-splice}
use Rattle.fields.proofs.Encoding.{head-length, bytes-none, bytes_count, place-le, fields-place}
use Rattle.listing_pass.specs.declared.Pass.TheVariants.{Stage}
use Rattle.listing_pass.specs.declared.Progress.{Progress}
use Rattle.listing_pass.specs.Sent.{Sent}
use Rattle.listing.specs.Staging.{stage_length, KeptPlunges, ListedInto}

-- bytes that were put at a place are there
splice-back : (old : List ℕ) (at : ℕ) (bs : List ℕ) → at + length bs ≤ length old → take (length bs) (drop at (spliced old at bs)) ≡ bs
splice-back old at bs h =
    ap (λ (l : List ℕ). take (length bs) (drop at l)) (append_assoc (take at old) bs (drop (at + length bs) old))
    ∙ ap (take (length bs)) (drop_at (take at old) (bs ++ drop (at + length bs) old) at (length-take-le at old (omega arith)))
    ∙ take-append_seam bs (drop (at + length bs) old)

module _ (p : Head) (file : List ℕ) (qs : List Plunge) (old new : List ℕ) (t : Progress)
    (s : Sent Stage file (place p 0) (plunge_fields (size_of p) qs) old new t) where
  -- where a count ends
  pub counted-end : t.at ≡ place p (length qs)
  counted-end = s.place ∙ fields-place p qs

  -- it goes to the end
  pub counted-whole : t.like ≡ true
  counted-whole = s.like ∙ eq-eqb (length (plunge_fields (size_of p) qs)) (length (plunge_fields (size_of p) qs)) refl

  -- what it kept
  pub counted-kept : length old ≡ stage_length → KeptPlunges p new t.at qs
  counted-kept l h =
      let g : place p 0 + length (plunge_fields (size_of p) qs) ≤ length old = omega (arith, s.place) in
      let k : t.at - place p 0 ≡ length (plunge_fields (size_of p) qs) = omega (arith, s.place) in
      ap (λ (n : ℕ). take n (drop (place p 0) new)) k
      ∙ ap (λ (o : List ℕ). take (length (plunge_fields (size_of p) qs)) (drop (place p 0) o)) (s.bytes.1 g)
      ∙ splice-back old (place p 0) (plunge_fields (size_of p) qs) g

-- the head's field fits before the plunges, so writing it keeps the length
pub head-same : (p : Head) (old new : List ℕ) (n : ℕ) → place p n ≤ length old → new ≡ spliced old 0 (head_field p) → length new ≡ length old
head-same p old new n h e =
    ap length e ∙ splice-length old 0 (head_field p) (omega (arith, head-length (size_of p) p, bytes-none (size_of p), place-le p (none n)))
  where
    none : (n : ℕ) → 0 ≤ n
    none n = omega arith

-- the verdict by the test that was made
module _ (p : Head) (m old new : List ℕ) where
  abbrev qs : List Plunge
  qs = listing p largest_erosion m

  -- too short: refused, and the output stays
  pub answered-short : (n : ℕ) → n ≡ file_length p (length qs) → length old < n → new ≡ old
      → ListedInto p m old new (Err (record { number = 5; place = n }))
  answered-short n e h g =
      let l : length old < file_length p (length qs) = omega arith in
      record { answer = rw (lt-ltb _ _ l) (ap (λ (k : ℕ). Err (record { number = 5; place = k })) e); bytes = rw (lt-ltb _ _ l) g }

  -- long enough: the whole file, and what lay past it
  pub answered-long : (n k j : ℕ) → n ≡ file_length p (length qs) → k ≡ length qs → j ≡ erosion_count p m → n ≤ length old
      → new ≡ encoded p qs ++ drop (length (encoded p qs)) old → ListedInto p m old new (Ok (record { bytes = n; plunges = k; erosions = j }))
  answered-long n k j e f d h g =
      let l : file_length p (length qs) ≤ length old = omega arith in
      record { answer = rw (le-ltb _ _ l) (λ i. Ok (record { bytes = e i; plunges = f i; erosions = d i })); bytes = rw (le-ltb _ _ l) g }

-- head, plunges and end, each written where the last one ended
module _ (p : Head) (qs : List Plunge) (old : List ℕ) (h : file_length p (length qs) ≤ length old) where
  begins : 0 + length (head_field p) ≡ place p 0
  begins = omega (arith, head-length (size_of p) p, bytes-none (size_of p))

  pub file-parts : spliced (spliced (spliced old 0 (head_field p)) (place p 0) (plunge_fields (size_of p) qs)) (place p (length qs)) (end_field (length qs))
      ≡ encoded p qs ++ drop (length (encoded p qs)) old
  unfolding encoded
  file-parts =
      ap (λ (n : ℕ). spliced (spliced (spliced old 0 (head_field p)) n (plunge_fields (size_of p) qs)) (place p (length qs)) (end_field (length qs))) (sym begins)
      ∙ ap (λ l. spliced l (place p (length qs)) (end_field (length qs)))
      (splice-splice old 0 (head_field p) (plunge_fields (size_of p) qs) (omega (arith, begins, fields-place p qs)))
      ∙ ap (λ (n : ℕ). spliced (spliced old 0 (head_field p ++ plunge_fields (size_of p) qs)) n (end_field (length qs))) sized
      ∙ splice-splice old 0 (head_field p ++ plunge_fields (size_of p) qs) (end_field (length qs)) (omega (arith, sized))
      ∙ splice-start old (head_field p ++ plunge_fields (size_of p) qs ++ end_field (length qs))
    where
      sized : place p (length qs) ≡ 0 + length (head_field p ++ plunge_fields (size_of p) qs)
      sized = omega (arith, length-append (head_field p) (plunge_fields (size_of p) qs), fields-place p qs, begins)

  -- the buffer, write after write
  pub file-whole : (first second third new : List ℕ) (end k : ℕ) → first ≡ old → second ≡ spliced first 0 (head_field p)
      → third ≡ spliced second (place p 0) (plunge_fields (size_of p) qs) → end ≡ place p (length qs) → k ≡ length qs
      → new ≡ spliced third end (end_field k) → new ≡ encoded p qs ++ drop (length (encoded p qs)) old
  file-whole first second third new end k a b c d e f =
      f ∙ ap (λ (n : ℕ). spliced third n (end_field k)) d ∙ ap (λ (n : ℕ). spliced third (place p (length qs)) (end_field n)) e
      ∙ ap (λ l. spliced l (place p (length qs)) (end_field (length qs)))
      (c ∙ ap (λ l. spliced l (place p 0) (plunge_fields (size_of p) qs)) (b ∙ ap (λ l. spliced l 0 (head_field p)) a))
      ∙ file-parts

-- the number of plunges, from the place where a count ends
pub plunges-of : (p : Head) (end n start bytes : ℕ) → end ≡ place p n → start ≡ place p 0 → bytes ≡ plunge_bytes (size_of p) → (end - start) / bytes ≡ n
plunges-of p end n start bytes e a b =
    (λ i. (e i - a i) / b i) ∙ ap (λ (k : ℕ). k / plunge_bytes (size_of p)) apart ∙ bytes_count (size_of p) n
  where
    apart : place p n - place p 0 ≡ plunge_bytes (size_of p) * n
    apart = omega (arith, bytes-none (size_of p))
