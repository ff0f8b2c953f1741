-- What an array of marks writes, from mark to mark; and how written, staged and compared plunges are sent.
use mathlib.Core.Path.{◌≡◌, refl, sym, ap, ap₂, ◌∙◌, subst}
use mathlib.Core.Bool.{Bool, true, false, cond}
use mathlib.Core.List.{List, [], ◌∷◌, ◌++◌, append-nil, map, map-append}
use Prim.Native.Nat.{ℕ, zero, suc, ◌+◌, ◌*◌, ◌≤◌, ◌<◌}
use native.Mathlib.Omega.{arith}
use native.Mathlib.Nat.{mul-le-mul}
use native.Mathlib.Numerals.{add-one}
use native.Mathlib.Decide.{dec_le}
use borrow.Author.Tests.{eq-eqb, ne_eqb}
use lib.Dec.{eqb}
use lib.ListN.{length, get_or, take, drop, length-take, length-map, length-append, take-append-drop}
use lib.Seq.{take-append_seam, take-suc, take-take, get_or-take}
use Rattle.geometry.specs.declared.Plunge.{Plunge}
use Rattle.geometry.specs.declared.Size.{Size}
use Rattle.geometry.specs.declared.Size.TheVariants.{Small, Large}
use Rattle.geometry.specs.Lists.{gather, common}
use Rattle.geometry.specs.Plate.{area}
use Rattle.refusal.specs.Refusals.{largest_side}
use Rattle.fields.specs.Fields.{plunge_field, plunge_fields, plunge_bytes}
use Rattle.fields.specs.Lengths.{IsLength}
use Rattle.fields.specs.Fits.{PlungeFits}
use Rattle.fields.specs.Writing.{spliced}
use Rattle.fields.proofs.Splice.{splice-start, splice-length, splice-splice}
use Rattle.fields.proofs.Encoding.{field-length, plunge_fields-append, plunge_fields-length, fields-few}
use Rattle.residue_marks.specs.Marks.{mark_places, tally, on_place, marked_places, NotePlaces}
use Rattle.residue_marks.proofs.Marking.{tally-few}
use Rattle.residue_series.specs.Plunges.{on_mark, marks_to}
use Rattle.climb.specs.declared.Region.{Region}
use Rattle.climb.specs.declared.Found.{Found}
use Rattle.climb.specs.Climbs.{plunge_of, found_plunges, FoundMarks}
use Rattle.residue_series.proofs.Plunges.{tally-length}
use Rattle.listing_pass.specs.declared.Pass.{Pass}
use Rattle.listing_pass.specs.declared.Pass.TheVariants.{Write, Compare, Stage}
use Rattle.listing_pass.specs.declared.Progress.{Progress}
use Rattle.listing_pass.specs.Sent.{Compared, Sent}
use Rattle.listing_pass.proofs.Common.{common-le}
use Rattle.listing_pass.proofs.Passes.{sent-all, sent-more, sent-stops}
use Rattle.listing_plunges.specs.Runs.{Bounded, NotedAt, noted_plunge}

-- a region of a plate has no more cells than a plate may have
region-few : (r : Region) → r.column + r.head.width ≤ largest_side → r.row + r.head.height ≤ largest_side → area r.head ≤ largest_side * largest_side
region-few r a b =
    let h : r.head.height ≤ largest_side = omega arith in
    let w : r.head.width ≤ largest_side = omega arith in
    mul-le-mul h w

-- a comparison is a pass
as-compared : (file : List ℕ) (at : ℕ) (bs : List ℕ) (r : Progress) → Sent Compare file at bs [] [] r → Compared file at bs r
as-compared file at bs r s = record { place = s.place; like = s.like }

abbrev writing : Pass → ℕ
writing Write = 1
writing Compare = 0
writing Stage = 0

not-writing : Compare ≡ Write → ⊥
not-writing e = let n : writing Compare ≡ writing Write = ap writing e in omega arith

-- ---- plunges at noted places

-- the marked places of a run stand for its plunges, and lie before its end
places-plunges : (f : Found) (marks : List ℕ) (n i : ℕ) → map (noted_plunge f marks) (marked_places marks n i)
    ≡ gather n i (λ j. on_mark (plunge_of f) (f.places.start + j) (get_or marks j 0))
places-plunges f marks zero i = refl
places-plunges f marks (suc n) i =
    map-append (noted_plunge f marks) (on_place marks i) (marked_places marks n (suc i))
    ∙ ap₂ (λ l o. l ++ o) (go (eqb (get_or marks i 0) 0)) (places-plunges f marks n (suc i))
  where
    go : (t : Bool) → map (noted_plunge f marks) (cond t [] (i ∷ [])) ≡ cond t [] (noted_plunge f marks i ∷ [])
    go true = refl
    go false = refl

places-below : (marks : List ℕ) (n i j : ℕ) → j < length (marked_places marks n i) → get_or (marked_places marks n i) j 0 < i + n
places-below marks zero i j h = absurd (omega arith)
places-below marks (suc n) i j h = go (eqb (get_or marks i 0) 0) j h (places-below marks n (suc i))
  where
    go : (t : Bool) (j : ℕ) → j < length (cond t [] (i ∷ []) ++ marked_places marks n (suc i))
        → ((j : ℕ) → j < length (marked_places marks n (suc i)) → get_or (marked_places marks n (suc i)) j 0 < suc i + n)
        → get_or (cond t [] (i ∷ []) ++ marked_places marks n (suc i)) j 0 < i + suc n
    go true j h r = omega (arith, r j h)
    go false zero h r = omega arith
    go false (suc j) h r = omega (arith, r j (omega arith))

-- the places of a run's marks are noted in an array
pub record NotedRun (f : Found) (marks noted : List ℕ) (count : ℕ) : Type 0 where
  pub marked : FoundMarks f marks
  pub size : length noted ≡ mark_places
  pub few : count ≤ f.places.number
  pub places : take count noted ≡ marked_places marks f.places.number 0

-- what noting them asks
pub noting : (f : Found) (marks noted : List ℕ) → FoundMarks f marks → length noted ≡ mark_places → NotePlaces 0 f.places.number 0 marks noted
noting f marks noted m e = record { ordered = omega arith; within = omega (arith, m.short); few = omega arith; size = m.size; room = e }

-- the plunges of the first j noted places
abbrev pub first_noted : Found → List ℕ → List ℕ → ℕ → List Plunge
first_noted f marks noted j = map (noted_plunge f marks) (take j noted)

-- those of the first j, of count, are written from a place on; their fields stand in a file from a place on
pub record Put (s : Size) (f : Found) (marks noted : List ℕ) (count at : ℕ) (old : List ℕ) (j : ℕ) (new : List ℕ) (place : ℕ) : Type 0 where
  pub within : j ≤ count
  pub written : new ≡ spliced old at (plunge_fields s (first_noted f marks noted j))
  pub reached : place ≡ at + length (plunge_fields s (first_noted f marks noted j))

pub record Like (s : Size) (f : Found) (marks noted : List ℕ) (count : ℕ) (file : List ℕ) (at j place : ℕ) : Type 0 where
  pub within : j ≤ count
  pub sent : Sent Compare file at (plunge_fields s (first_noted f marks noted j)) [] [] (record { at = place; like = true })

module _ (s : Size) (f : Found) (marks noted : List ℕ) (count : ℕ) (n : NotedRun f marks noted count) where
  counted : length (marked_places marks f.places.number 0) ≡ count
  counted = sym (ap length n.places) ∙ length-take count noted ∙ (let a = n.few in let b = n.marked.short in let c = n.size in omega arith)

  all : first_noted f marks noted count ≡ found_plunges f marks
  all = ap (map (noted_plunge f marks)) n.places ∙ places-plunges f marks f.places.number 0

  pub noted-count : length (found_plunges f marks) ≡ count
  noted-count = sym (ap length all) ∙ length-map (take count noted) (noted_plunge f marks) ∙ ap length n.places ∙ counted

  -- at the end they are the plunges of the run
  noted-all : (j : ℕ) → j ≤ count → count ≤ j → first_noted f marks noted j ≡ found_plunges f marks
  noted-all j h g = let e : j ≡ count = omega arith in ap (first_noted f marks noted) e ∙ all

  module _ (j : ℕ) (less : j < count) where
    -- one of them can be taken
    pub noted-at : NotedAt f marks noted j
    noted-at =
        let a = n.few in
        let b = n.marked.short in
        let c = n.size in
        record {
          marked = n.marked;
          size = n.size;
          here = omega arith;
          below = omega (
            arith,
            get_or-take count noted j 0 less,
            ap (λ (l : List ℕ). get_or l j 0) n.places,
            places-below marks f.places.number 0 j (omega (arith, counted)),
          );
        }

    -- one more of them
    noted-next : first_noted f marks noted (j + 1) ≡ first_noted f marks noted j ++ (noted_plunge f marks (get_or noted j 0) ∷ [])
    noted-next =
        ap (map (noted_plunge f marks)) (ap (λ (i : ℕ). take i noted) (add-one j) ∙ take-suc noted j 0 (omega (arith, noted-at.here, n.size)))
        ∙ map-append (noted_plunge f marks) (take j noted) (get_or noted j 0 ∷ [])

    fields-next : plunge_fields s (first_noted f marks noted (j + 1))
        ≡ plunge_fields s (first_noted f marks noted j) ++ plunge_field s (noted_plunge f marks (get_or noted j 0))
    fields-next =
        ap (plunge_fields s) noted-next ∙ plunge_fields-append s (first_noted f marks noted j) (noted_plunge f marks (get_or noted j 0) ∷ [])
        ∙ ap (λ (l : List ℕ). plunge_fields s (first_noted f marks noted j) ++ l) (append-nil (plunge_field s (noted_plunge f marks (get_or noted j 0))))

    -- those after it
    fields-rest : plunge_fields s (found_plunges f marks) ≡ plunge_fields s (first_noted f marks noted (j + 1))
        ++ plunge_fields s (map (noted_plunge f marks) (drop (j + 1) (take count noted)))
    fields-rest =
        ap (plunge_fields s)
        (sym all ∙ ap (map (noted_plunge f marks)) (sym (take-append-drop (j + 1) (take count noted)))
        ∙ map-append (noted_plunge f marks) (take (j + 1) (take count noted)) (drop (j + 1) (take count noted))
        ∙ ap (λ (l : List ℕ). map (noted_plunge f marks) l ++ map (noted_plunge f marks) (drop (j + 1) (take count noted)))
        (take-take (j + 1) count noted (omega arith)))
        ∙ plunge_fields-append s (first_noted f marks noted (j + 1)) (map (noted_plunge f marks) (drop (j + 1) (take count noted)))

  -- one field more, and those up to one of them, by their lengths
  bytes_next : (j : ℕ) → j < count → length (plunge_fields s (first_noted f marks noted (j + 1)))
      ≡ length (plunge_fields s (first_noted f marks noted j)) + plunge_bytes s
  bytes_next j less =
      omega (
        arith,
        ap length (fields-next j less),
        length-append (plunge_fields s (first_noted f marks noted j)) (plunge_field s (noted_plunge f marks (get_or noted j 0))),
        field-length s (noted_plunge f marks (get_or noted j 0)),
      )

  bytes-before : (j : ℕ) → j < count → length (plunge_fields s (first_noted f marks noted j)) + plunge_bytes s ≤ length (plunge_fields s (found_plunges f marks))
  bytes-before j less =
      omega (
        arith,
        bytes_next j less,
        ap length (fields-rest j less),
        length-append (plunge_fields s (first_noted f marks noted (j + 1))) (plunge_fields s (map (noted_plunge f marks) (drop (j + 1) (take count noted)))),
      )

  bytes-within : (j : ℕ) → j ≤ count → length (plunge_fields s (first_noted f marks noted j)) ≤ length (plunge_fields s (found_plunges f marks))
  bytes-within j h = go (dec_le count j)
    where
      go : Dec (count ≤ j) → length (plunge_fields s (first_noted f marks noted j)) ≤ length (plunge_fields s (found_plunges f marks))
      go (yes l) = omega (arith, ap (λ (qs : List Plunge). length (plunge_fields s qs)) (noted-all j h l))
      go (no l) = omega (arith, bytes-before j (omega arith))

  -- ---- written

  module _ (at : ℕ) (old : List ℕ) (j : ℕ) (mid : List ℕ) (place : ℕ) (h : Put s f marks noted count at old j mid place)
      (room : at + length (plunge_fields s (found_plunges f marks)) ≤ length old) where
    fits : at + length (plunge_fields s (first_noted f marks noted j)) ≤ length old
    fits = omega (arith, bytes-within j h.within, room)

    pub put_same : length mid ≡ length old
    put_same = ap length h.written ∙ splice-length old at _ fits

    pub put-end : count ≤ j → (place ≡ at + length (plunge_fields s (found_plunges f marks))) × (mid ≡ spliced old at (plunge_fields s (found_plunges f marks)))
    put-end l = (
      h.reached ∙ ap (λ (qs : List Plunge). at + length (plunge_fields s qs)) (noted-all j h.within l),
      h.written ∙ ap (λ (qs : List Plunge). spliced old at (plunge_fields s qs)) (noted-all j h.within l),
    )

    module _ (less : j < count) where
      pub put-room : place + plunge_bytes s ≤ length mid
      put-room = omega (arith, h.reached, put_same, bytes-before j less, room)

      -- one plunge more
      pub put-more : (q : Plunge) (new : List ℕ) (end : ℕ) → q ≡ noted_plunge f marks (get_or noted j 0) → new ≡ spliced mid place (plunge_field s q)
          → end ≡ place + plunge_bytes s → Put s f marks noted count at old (j + 1) new end
      put-more q new end is e g =
          record {
            within = omega arith;
            written =
                e ∙ ap (λ (o : Plunge). spliced mid place (plunge_field s o)) is
                ∙ ap₂ (λ (l : List ℕ) (i : ℕ). spliced l i (plunge_field s (noted_plunge f marks (get_or noted j 0)))) h.written h.reached
                ∙ splice-splice old at (plunge_fields s (first_noted f marks noted j)) _ fits ∙ ap (spliced old at) (sym (fields-next j less));
            reached = omega (arith, h.reached, bytes_next j less);
          }

  -- ---- compared

  module _ (file : List ℕ) (at j place : ℕ) (h : Like s f marks noted count file at j place) where
    like-place : place ≡ at + length (plunge_fields s (first_noted f marks noted j))
    like-place = sent-all Compare file at _ [] [] _ h.sent refl

    pub like-end : count ≤ j → Compared file at (plunge_fields s (found_plunges f marks)) (record { at = place; like = true })
    like-end l = as-compared _ _ _ _ (subst (λ (qs : List Plunge). Sent Compare file at (plunge_fields s qs) [] [] (record { at = place; like = true }))
        (noted-all j h.within l) h.sent)

    -- the next field ends where a length can be
    pub like-fits : j < count → IsLength (at + plunge_bytes s * mark_places) → IsLength (place + plunge_bytes s)
    like-fits less l = omega (arith, like-place, bytes-before j less, fields-few s (found_plunges f marks) mark_places few)
      where
        few : length (found_plunges f marks) ≤ mark_places
        few = omega (arith, noted-count, n.few, n.marked.short)

    module _ (less : j < count) (q : Plunge) (is : q ≡ noted_plunge f marks (get_or noted j 0)) (m : ℕ)
        (found : m ≡ common (drop place file) (plunge_field s q)) where
      pub like-few : m ≤ plunge_bytes s
      like-few = omega (arith, found, common-le (drop place file) (plunge_field s q), field-length s q)

      -- a comparison with one field more
      abbrev Next : Bool → Type 0
      Next t = Sent Compare file at (plunge_fields s (first_noted f marks noted (j + 1))) [] [] (record { at = place + m; like = t })

      both : Next (eqb m (length (plunge_field s q)))
      both =
          subst (λ (o : List ℕ). Sent Compare file at o [] [] (record { at = place + m; like = eqb m (length (plunge_field s q)) }))
          (ap (λ (o : Plunge). plunge_fields s (first_noted f marks noted j) ++ plunge_field s o) is ∙ sym (fields-next j less))
          (sent-more Compare file at (plunge_fields s (first_noted f marks noted j)) (plunge_field s q) [] [] [] _ _ (λ e. absurd (not-writing e)) h.sent refl
          (record { place = ap (λ (i : ℕ). place + i) found; like = ap (λ (i : ℕ). eqb i (length (plunge_field s q))) found; bytes = refl }))

      -- one plunge more
      pub like-more : plunge_bytes s ≤ m → Like s f marks noted count file at (j + 1) (place + m)
      like-more l =
          let e : m ≡ length (plunge_field s q) = omega (arith, like-few, field-length s q) in
          record { within = omega arith; sent = subst Next (eq-eqb m (length (plunge_field s q)) e) both }

      -- a byte of it is unlike
      pub like-stops : m < plunge_bytes s → Compared file at (plunge_fields s (found_plunges f marks)) (record { at = place + m; like = false })
      like-stops l =
          let unlike : eqb m (length (plunge_field s q)) ≡ false = ne_eqb m (length (plunge_field s q)) (λ e. omega (arith, e, field-length s q)) in
          as-compared _ _ _ _
          (subst (λ (o : List ℕ). Sent Compare file at o [] [] (record { at = place + m; like = false })) (sym (fields-rest j less))
          (sent-stops Compare file at (plunge_fields s (first_noted f marks noted (j + 1))) _ [] [] _ (subst Next unlike both) refl))

-- ---- a plunge's field

-- the first bytes of an array that it was written to
pub field-first : (s : Size) (q : Plunge) (old new : List ℕ) (n : ℕ) → n ≡ plunge_bytes s → new ≡ spliced old 0 (plunge_field s q) → take n new ≡ plunge_field s q
field-first s q old new n e g =
    let k : n ≡ length (plunge_field s q) = omega (arith, field-length s q) in
    ap₂ take k (g ∙ splice-start old (plunge_field s q)) ∙ take-append_seam (plunge_field s q) (drop (length (plunge_field s q)) old)

-- a plunge of a plate of fitting sides has room in a field of either size
pub bounded-fits : (s : Size) (q : Plunge) → Bounded q → PlungeFits s q
bounded-fits Small q b = record { column = omega (arith, b.column); row = omega (arith, b.row); reach = omega (arith, b.reach) }
bounded-fits Large q b = record { column = omega (arith, b.column); row = omega (arith, b.row); reach = omega (arith, b.reach) }

-- a run has no more plunges than places
pub marks-few : (n : ℕ) (f : ℕ → ℕ → Plunge) (start : ℕ) (marks : List ℕ) → length (marks_to n f start marks) ≤ n
marks-few n f start marks = omega (arith, tally-length f start marks n, tally-few marks n)

-- the bytes of a run's fields, by how many marks there are; no more than those of as many fields as places
module _ (s : Size) (f : Found) (marks : List ℕ) where
  count-plunges : (k : ℕ) → k ≡ tally marks f.places.number → length (found_plunges f marks) ≡ k
  count-plunges k e = tally-length (plunge_of f) f.places.start marks f.places.number ∙ sym e

  pub run-bytes : (b k : ℕ) → b ≡ plunge_bytes s → k ≡ tally marks f.places.number → b * k ≡ length (plunge_fields s (found_plunges f marks))
  run-bytes b k e g = (λ i. e i * sym (count-plunges k g) i) ∙ sym (plunge_fields-length s (found_plunges f marks))

  pub run-bytes-few : FoundMarks f marks → length (plunge_fields s (found_plunges f marks)) ≤ plunge_bytes s * mark_places
  run-bytes-few m = fields-few s (found_plunges f marks) mark_places
      (omega (arith, marks-few f.places.number (plunge_of f) f.places.start marks, m.short))
