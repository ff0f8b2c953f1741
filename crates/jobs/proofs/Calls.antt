-- What the calls on files leave, refused and done: their verdicts by the tests that were made, their buffers by what was done.
use Rattle.std.specs.Prelude.{Ok, Err, Result}
use mathlib.Core.Path.{◌≡◌, refl, sym, ap, ap₂, ◌∙◌, subst, fun_ext}
use mathlib.Core.Logic.{◌⊎◌, inl, inr}
use mathlib.Core.Bool.{Bool, true, false, cond}
use mathlib.Core.List.{List, [], ◌∷◌, ◌++◌}
use Prim.Native.Nat.{ℕ, ◌*◌, ◌≤◌, ◌<◌, min}
use native.Mathlib.Omega.{arith}
use borrow.Author.Tests.{lt-ltb, le-ltb}
use lib.Dec.{ltb}
use lib.ListN.{length, drop}
use Rattle.geometry.specs.declared.Head.{Head}
use Rattle.geometry.specs.declared.Plunge.{Plunge}
use Rattle.geometry.specs.Plane.{Cell}
use Rattle.geometry.specs.Plate.{On, area, at, tabulated}
use Rattle.theory.specs.Climbed.{erosion_count}
use Rattle.theory.specs.Listing.{listing, drawn}
use Rattle.theory.proofs.Plate.{on-or-off, at-cell, at-tabulated}
use Rattle.theory.proofs.Canonical.{count_same, listing-same}
use Rattle.refusal.specs.declared.Refusal.{Refusal}
use Rattle.refusal.specs.Refusals.{Trial, first_met, short, map_trials, head_of, largest_erosion, free, written, Answered, Worked}
use Rattle.refusal.proofs.Refusals.{shortest-two, same-verdict, map-sound, answered-refused}
use Rattle.refusal.proofs.Trials.{and_then, first-append}
use Rattle.buffers.specs.Fill.{Mapped, PlateOnly}
use Rattle.buffers.proofs.Fill.{mapped-bytes, surplus-drop}
use Rattle.fields.specs.Fields.{encoded, file_length}
use Rattle.reading.specs.Reading.{IsReadable, file_trials, head_in, plunges_up_to, total}
use Rattle.reading.specs.declared.Job.{Job}
use Rattle.reading.proofs.Readable.{readable-sound}
use Rattle.reading.proofs.Answers.{after-file, file-fault}
use Rattle.refusal.specs.Sides.{Sides}
use Rattle.drawing_box.specs.Boxed.{Drawable}
use Rattle.listing.specs.Staging.{ListedInto}
use Rattle.listing.specs.Answers.{room_trials, list_answer}
use Rattle.jobs.specs.Calls.{relief, plate_trial, draw_verdict, listed, list_trials, room_for, list_verdict, ListAnswered, ListCall, tidied_plunges, tidy_verdict, TidyCall}
use Rattle.reading.specs.Steps.{JobOf}
use Rattle.listing_plunges.specs.Listable.{Listable}
use Rattle.refusal.specs.Refusals.{Verdict}
use Rattle.listing.specs.declared.Extent.{Extent}

-- ---- the plate's buffers

-- the shortest of three buffers stands for all
pub short-three : (w h a b c n : ℕ) → n ≡ min (min a b) c → n < h * w → short w h (a ∷ b ∷ c ∷ []) ≡ true
short-three w h a b c n e l = shortest-two (h * w) a b (c ∷ []) ∙ shortest-two (h * w) (min a b) c [] ∙ rw (lt-ltb (min (min a b) c) (h * w) (omega arith))

pub long-three : (w h a b c n : ℕ) → n ≡ min (min a b) c → h * w ≤ n → short w h (a ∷ b ∷ c ∷ []) ≡ false
long-three w h a b c n e l = shortest-two (h * w) a b (c ∷ []) ∙ shortest-two (h * w) (min a b) c [] ∙ rw (le-ltb (min (min a b) c) (h * w) (omega arith))

pub short-one : (w h a : ℕ) → a < h * w → short w h (a ∷ []) ≡ true
short-one w h a l = rw (lt-ltb a (h * w) l)

pub long-one : (w h a : ℕ) → h * w ≤ a → short w h (a ∷ []) ≡ false
long-one w h a l = rw (le-ltb a (h * w) l)

-- of a readable file: 4, then the rest
module _ (f : List ℕ) (lengths : List ℕ) (more : List Trial) where
  pub plate-fault : IsReadable f → short (head_in f).width (head_in f).height lengths ≡ true
      → first_met (file_trials f ++ (plate_trial f lengths ∷ more)) ≡ Err (record { number = 4; place = 0 })
  plate-fault e s = after-file f (plate_trial f lengths ∷ more) e ∙ rw s

  pub no-fault : IsReadable f → short (head_in f).width (head_in f).height lengths ≡ false
      → first_met (file_trials f ++ (plate_trial f lengths ∷ more)) ≡ first_met more
  no-fault e s = after-file f (plate_trial f lengths ∷ more) e ∙ rw s

-- ---- buffers

pub worked-none : (v : Verdict) (n : ℕ) (a : List ℕ) → Worked v n a a
worked-none v n a = record { same = refl; surplus = refl; kept = λ h. refl }

pub worked-free : (v : Verdict) (p : Head) (a a' : List ℕ) → free v ≡ true → PlateOnly p a a' → Worked v (area p) a a'
worked-free v p a a' e k = record {
  same = k.same;
  surplus = surplus-drop p (λ c. 0) a a' k.same k.surplus;
  kept =
      λ h. let z : ◌≡◌ {A = ℕ} 0 1 = cc in absurd (omega arith);
}

pub kept-mapped : (p : Head) (g : Cell → ℕ) (a a' : List ℕ) → Mapped p g a a' → PlateOnly p a a'
kept-mapped p g a a' m = record { same = m.same; surplus = m.surplus }

-- after acceptance and after 5 work bytes are free
pub room-free : (n : ℕ) (out : List ℕ) → free (first_met (room_trials n out)) ≡ true
room-free n out = go (ltb (length out) n)
  where
    go : (b : Bool) → free (cond b (Err (record { number = 5; place = n })) (Ok tt)) ≡ true
    go true = refl
    go false = refl

pub listing-refused : (v : Verdict) (q : Refusal) (p : Head) (qs : List Plunge) (n : ℕ) (out a b : List ℕ) → v ≡ Err q
    → ListAnswered v p qs n out out a a b b (Err q)
listing-refused v q p qs n out a b e =
    record {
      answer = sym (ap (λ (u : Verdict). list_answer u p qs n) e);
      bytes = sym (ap (λ (u : Verdict). written u (encoded p qs) out) e);
      first = worked-none v (area p) a;
      second = worked-none v (area p) b;
    }

pub listing-done : (v : Verdict) (p : Head) (qs : List Plunge) (n : ℕ) (out out' a a' b b' : List ℕ) (r : Result Extent Refusal)
    → v ≡ first_met (room_for p qs out)
    → r ≡ list_answer (first_met (room_for p qs out)) p qs n
    → out' ≡ written (first_met (room_for p qs out)) (encoded p qs) out → PlateOnly p a a' → PlateOnly p b b'
    → ListAnswered v p qs n out out' a a' b b' r
listing-done v p qs n out out' a a' b b' r e h l x y =
    record {
      answer = h ∙ sym (ap (λ (u : Verdict). list_answer u p qs n) e);
      bytes = l ∙ sym (ap (λ (u : Verdict). written u (encoded p qs) out) e);
      first = worked-free v p a a' freed x;
      second = worked-free v p b b' freed y;
    }
  where
    freed : free v ≡ true
    freed = ap free e ∙ room-free (file_length p (length qs)) out

-- ---- the relief that a file draws

pub mapped_at : (p : Head) (g : Cell → ℕ) (old new : List ℕ) → Mapped p g old new → at p new ≡ at p (tabulated p g)
mapped_at p g old new m = fun_ext (λ c. go c (on-or-off p c))
  where
    go : (c : Cell) → On p c ⊎ ((n : List ℕ) → at p n c ≡ 0) → at p new c ≡ at p (tabulated p g) c
    go c (inl o) =
        subst (λ d. at p new d ≡ g d) (sym o.is)
        (at-cell p new o.column o.row o.left o.upper ∙ m.holds o.column o.row o.left o.upper)
        ∙ sym (at-tabulated p g c o)
    go c (inr z) = z new ∙ sym (z _)

-- what is drawn in a buffer lists as the file's relief does
pub drawn-lists : (f : List ℕ) (p : Head) (n : ℕ) (old new : List ℕ) → p ≡ head_in f → n ≡ total f → Mapped p (drawn p.kind (plunges_up_to n f)) old new
    → listing p largest_erosion new ≡ listing (head_in f) largest_erosion (relief f)
drawn-lists f p n old new e l m =
    listing-same p largest_erosion new (tabulated p (drawn p.kind (plunges_up_to n f))) (mapped_at p (drawn p.kind (plunges_up_to n f)) old new m)
    ∙ ap₂ (λ (h : Head) (k : ℕ). listing h largest_erosion (tabulated h (drawn h.kind (plunges_up_to k f)))) e l

-- and takes as many erosions
pub drawn-counts : (f : List ℕ) (p : Head) (n : ℕ) (old new : List ℕ) → p ≡ head_in f → n ≡ total f → Mapped p (drawn p.kind (plunges_up_to n f)) old new
    → erosion_count p new ≡ erosion_count (head_in f) (relief f)
drawn-counts f p n old new e l m =
    count_same p new (tabulated p (drawn p.kind (plunges_up_to n f))) (mapped_at p (drawn p.kind (plunges_up_to n f)) old new m)
    ∙ ap₂ (λ (h : Head) (k : ℕ). erosion_count h (tabulated h (drawn h.kind (plunges_up_to k f)))) e l

pub drawn-bytes : (f : List ℕ) (p : Head) (n : ℕ) (old new : List ℕ) → p ≡ head_in f → n ≡ total f → area p ≤ length old
    → Mapped p (drawn p.kind (plunges_up_to n f)) old new
    → new ≡ relief f ++ drop (length (relief f)) old
drawn-bytes f p n old new e l h m =
    mapped-bytes p (drawn p.kind (plunges_up_to n f)) old new h m
    ∙ ap (λ (r : List ℕ). r ++ drop (length r) old) (ap₂ (λ (h : Head) (k : ℕ). tabulated h (drawn h.kind (plunges_up_to k f))) e l)

-- ---- the calls, each by the tests that led to its end

-- on a fault everything stays
pub draw-fault : (f : List ℕ) (q : Refusal) (out : List ℕ) → first_met (file_trials f) ≡ Err q → Answered (draw_verdict f out) (relief f) out out (Err q)
draw-fault f q out e = answered-refused (draw_verdict f out) q (relief f) out (file-fault f _ q e)

tidy-refused : (f : List ℕ) (q : Refusal) (out a b c : List ℕ) → tidy_verdict f out a b c ≡ Err q → TidyCall f out out a a b b c c (Err q)
tidy-refused f q out a b c e =
    record {
      list = listing-refused (tidy_verdict f out a b c) q (head_in f) (tidied_plunges f) _ out a b e;
      third = worked-none (tidy_verdict f out a b c) (area (head_in f)) c;
    }

pub tidy-fault : (f : List ℕ) (q : Refusal) (out a b c : List ℕ) → first_met (file_trials f) ≡ Err q → TidyCall f out out a a b b c c (Err q)
tidy-fault f q out a b c e = tidy-refused f q out a b c (file-fault f _ q e)

-- of a file that was read
module _ (f : List ℕ) (j : Job) (w : JobOf f j) where
  -- what drawing asks
  pub draw-asks : Sides j.head × Drawable j.head j.plunges f
  draw-asks =
      let s = readable-sound f w.readable in
      let drawable : Drawable (head_in f) (total f) f = record { head = refl; room = omega (arith, s.room); fits = s.fits } in (
        subst Sides (sym w.head) s.sides,
        subst (λ (n : ℕ). Drawable j.head n f) (sym w.plunges)
            (subst (λ (h : Head). Drawable h (total f) f) (sym w.head) drawable),
      )

  -- the buffers that the head asks for
  module _ (lengths : List ℕ) where
    pub short-of : short j.head.width j.head.height lengths ≡ true → short (head_in f).width (head_in f).height lengths ≡ true
    short-of = subst (λ (h : Head). short h.width h.height lengths ≡ true) w.head

    pub long_of : short j.head.width j.head.height lengths ≡ false → short (head_in f).width (head_in f).height lengths ≡ false
    long_of = subst (λ (h : Head). short h.width h.height lengths ≡ false) w.head

  -- drawing
  pub draw-short : (out : List ℕ) (q : Refusal) → q ≡ record { number = 4; place = 0 } → length out < area j.head
      → Answered (draw_verdict f out) (relief f) out out (Err q)
  draw-short out q e l = answered-refused (draw_verdict f out) q (relief f) out
      (plate-fault f (length out ∷ []) [] w.readable (short-of (length out ∷ []) (short-one j.head.width j.head.height (length out) l))
      ∙ sym (ap Err e))

  pub draw-done : (out out' : List ℕ) → area j.head ≤ length out → Mapped j.head (drawn j.head.kind (plunges_up_to j.plunges f)) out out'
      → Answered (draw_verdict f out) (relief f) out out' (Ok tt)
  draw-done out out' l m =
      let v : draw_verdict f out ≡ (Ok tt) = no-fault f (length out ∷ []) [] w.readable
      (long_of (length out ∷ []) (long-one j.head.width j.head.height (length out) l)) in
      record {
        answer = sym v;
        bytes = drawn-bytes f j.head j.plunges out out' w.head w.plunges l m ∙ sym
            (ap (λ (u : Verdict). written u (relief f) out) v);
      }

  -- tidying
  module _ (out a b c : List ℕ) (n : ℕ) (e : n ≡ min (min (length a) (length b)) (length c)) where
    abbrev works : List ℕ
    works = length a ∷ length b ∷ length c ∷ []

    pub tidy-short : (q : Refusal) → q ≡ record { number = 4; place = 0 } → n < area j.head → TidyCall f out out a a b b c c (Err q)
    tidy-short q g l = tidy-refused f q out a b c
        (plate-fault f works _ w.readable (short-of works (short-three j.head.width j.head.height (length a) (length b) (length c) n e l))
        ∙ sym (ap Err g))

    pub works-long : area j.head ≤ n → short (head_in f).width (head_in f).height works ≡ false
    works-long l = long_of works (long-three j.head.width j.head.height (length a) (length b) (length c) n e l)

    pub tidy-done : area j.head ≤ n → (out' a' b' c' : List ℕ) (r : Result Extent Refusal) → Mapped j.head (drawn j.head.kind (plunges_up_to j.plunges f)) c c'
        → ListedInto j.head c' out out' r → PlateOnly j.head a a' → PlateOnly j.head b b' → TidyCall f out out' a a' b b' c c' r
    tidy-done l out' a' b' c' r m d x y =
        record {
          list = listing-done v (head_in f) (tidied_plunges f) (erosion_count (head_in f) (relief f)) out out' a a' b b' r verdict
              (into.answer ∙ ap₂ (λ (qs : List Plunge) (n : ℕ). list_answer (first_met (room_for (head_in f) qs out)) (head_in f) qs n) lists counts)
              (into.bytes ∙ ap (λ (qs : List Plunge). written (first_met (room_for (head_in f) qs out)) (encoded (head_in f) qs) out)
              lists) (moved a a' x) (moved b b' y);
          third = worked-free v (head_in f) c c' (ap free verdict ∙ room-free (file_length (head_in f) (length (tidied_plunges f))) out)
              (moved c c' (kept-mapped j.head _ c c' m));
        }
      where
        v : Verdict
        v = tidy_verdict f out a b c

        verdict : v ≡ first_met (room_for (head_in f) (tidied_plunges f) out)
        verdict = no-fault f works _ w.readable (works-long l)

        into : ListedInto (head_in f) c' out out' r
        into = subst (λ (h : Head). ListedInto h c' out out' r) w.head d

        lists : listing (head_in f) largest_erosion c' ≡ tidied_plunges f
        lists = ap (λ (h : Head). listing h largest_erosion c') (sym w.head) ∙ drawn-lists f j.head j.plunges c c' w.head w.plunges m

        counts : erosion_count (head_in f) c' ≡ erosion_count (head_in f) (relief f)
        counts = ap (λ (h : Head). erosion_count h c') (sym w.head) ∙ drawn-counts f j.head j.plunges c c' w.head w.plunges m

        moved : (s s' : List ℕ) → PlateOnly j.head s s' → PlateOnly (head_in f) s s'
        moved s s' = subst (λ (h : Head). PlateOnly h s s') w.head

-- ---- listing

module _ (m : List ℕ) (k w h : ℕ) (out a b : List ℕ) (n : ℕ) (v : Verdict) (e : n ≡ min (min (length m) (length a)) (length b)) (g : v ≡ first_met
    (map_trials k w h false (n ∷ []))) where
  judged : first_met (list_trials m k w h a b) ≡ v
  judged =
      same-verdict k w h false (length m ∷ length a ∷ length b ∷ []) (n ∷ [])
      (shortest-two (h * w) (length m) (length a) (length b ∷ []) ∙ shortest-two (h * w) (min (length m) (length a)) (length b) [] ∙ ap
      (λ (i : ℕ). short w h (i ∷ [])) (sym e))
      ∙ sym g

  verdict : list_verdict m k w h out a b ≡ and_then v (first_met (room_for (head_of k w h) (listed m k w h) out))
  verdict = first-append (list_trials m k w h a b)
      (room_for (head_of k w h) (listed m k w h) out) ∙ ap
      (λ (u : Verdict). and_then u (first_met (room_for (head_of k w h) (listed m k w h) out))) judged

  pub list-refused : (q : Refusal) → v ≡ Err q → ListCall m k w h out out a a b b (Err q)
  list-refused q l = listing-refused (list_verdict m k w h out a b) q (head_of k w h) (listed m k w h) _ out a b
      (verdict ∙ ap (λ (u : Verdict). and_then u (first_met (room_for (head_of k w h) (listed m k w h) out))) l)

  -- what the listing asks
  pub list-asks : v ≡ Ok tt → (p : Head) → p ≡ head_of k w h → Listable p m a b
  list-asks l p i =
      let s = map-sound k w h false n (sym g ∙ l) in
      subst (λ (q : Head). Listable q m a b) (sym i)
      (record {
        sides = record { wide = s.wide; narrow = s.narrow; tall = s.tall; low = s.low };
        relief = omega (arith, s.long);
        first = omega (arith, s.long);
        second = omega (arith, s.long);
      })

  pub list_done : v ≡ Ok tt → (p : Head) → p ≡ head_of k w h → (out' a' b' : List ℕ) (r : Result Extent Refusal) → ListedInto p m out out' r
      → PlateOnly p a a' → PlateOnly p b b' → ListCall m k w h out out' a a' b b' r
  list_done l p i out' a' b' r d x y =
      let into : ListedInto (head_of k w h) m out out' r = subst (λ (q : Head). ListedInto q m out out' r) i d in
      listing-done (list_verdict m k w h out a b) (head_of k w h) (listed m k w h) (erosion_count (head_of k w h) m) out out' a a' b b' r
      (verdict ∙ ap (λ (u : Verdict). and_then u (first_met (room_for (head_of k w h) (listed m k w h) out))) l)
      into.answer into.bytes (subst (λ (q : Head). PlateOnly q a a') i x) (subst (λ (q : Head). PlateOnly q b b') i y)
