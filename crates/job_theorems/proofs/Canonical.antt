-- Demand 3, whole: the canonical-form theorem, about what the tidying call answers and leaves.
use Rattle.std.specs.Prelude.{Ok}
use mathlib.Core.Path.{◌≡◌, refl, sym, ap, ap₂, ◌∙◌, subst}
use mathlib.Core.Logic.{◌⊎◌, inl, inr, ◌↔◌}
use mathlib.Core.Bool.{Bool, true, false, not}
use mathlib.Core.List.Memᴰ
use mathlib.Core.List.{List, [], ◌∷◌, Memᴰ}
use Prim.Native.Nat.{ℕ, ◌+◌, ◌*◌, ◌≤◌, ◌<◌, min}
use native.Mathlib.Omega.{arith}
use lib.ListN.{length}
use Rattle.geometry.specs.declared.Kind.{Kind}
use Rattle.geometry.specs.declared.Head.{Head}
use Rattle.geometry.specs.declared.Plunge.{Plunge}
use Rattle.geometry.specs.Plane.{Cell}
use Rattle.geometry.specs.Plate.{On, area, at}
use Rattle.geometry.specs.Plunges.{fits_plate}
use Rattle.theory.specs.Climbed.{erosion_count}
use Rattle.theory.specs.Listing.{Fits, Maximal, Rising, drawn, drawing, canonical}
use Rattle.theory.proofs.Lists.{gather-out}
use Rattle.theory.proofs.Plate.{on-or-off, at-tabulated, length-tabulated}
use Rattle.theory.proofs.Plunges.{fits_plate-iff}
use Rattle.theory.proofs.Listing.{listed-iff-maximal, fits-inside}
use Rattle.theory.proofs.Order.{listing-rising}
use Rattle.theory.proofs.Drawing.{le-drawn}
use Rattle.theory.proofs.Canonical.{canonical-iff, canonical-draws, canonical-twice}
use Rattle.refusal.specs.Refusals.{trial, first_met, largest_erosion, written, Worked}
use Rattle.fields.specs.Fields.{encoded}
use Rattle.fields.proofs.Encoding.{encoded-injective}
use Rattle.reading.proofs.Answers.{after-file}
use Rattle.reading.proofs.Readable.{Sound, readable-sound, Writable, encoded-readable, encoded-head, encoded-plunges}
use Rattle.reading.specs.Reading.{IsReadable, head_in, plunges_in, nth_plunge, total}
use Rattle.geometry.specs.Lists.{common}
use Rattle.listing.specs.Answers.{list_answer}
use Rattle.jobs.specs.Calls.{relief, tidied_plunges, tidied, work_trial, room_for, tidy_verdict}
use Rattle.job_check.specs.Checking.{alike, check_verdict}
use Rattle.job_theorems.specs.Canonical.{NoneMet, Tidying, file, Checking, SamePlate, SameRelief, Canonical, Lists, CanonicalForm, Tidiable}
use Rattle.job_check.proofs.Alike.{refused-not, alike_same, alike-equal}
use Rattle.jobs.proofs.Calls.{worked-none}
use Rattle.job_theorems.proofs.Answers.{after, tidy-accepts, given-file, given-lists, listing-writable, long-works, exact-room}
use Rattle.refusal.specs.Refusals.{Verdict}

-- ---- what the tidying call gave

module _ (f : List ℕ) (s : Tidying f) where
  -- with buffers long enough nothing is refused
  pub accepts : tidy_verdict f s.out s.a s.b s.c ≡ Ok tt
  accepts = tidy-accepts f s.out s.a s.b s.c s.readable s.works s.room

  -- the bytes of the answer alone are the tidied file
  pub file-is : file s ≡ tidied f
  file-is = given-file (head_in f) (tidied_plunges f) s.out s.out' s.answer _ accepts _ s.call.list.answer s.call.list.bytes

  pub tidying-lists : Lists s.answer (file s)
  tidying-lists = given-lists (head_in f) (tidied_plunges f) s.out s.out' s.answer _ accepts _ s.call.list.answer s.call.list.bytes

-- ---- a readable file, its relief and its tidied file

module _ (f : List ℕ) (ok : IsReadable f) where
  sound : Sound f
  sound = readable-sound f ok

  pub sides : min (head_in f).width (head_in f).height ≤ 2 * largest_erosion
  sides = omega (arith, sound.sides.narrow)

  good : Writable (head_in f) (tidied_plunges f)
  good = listing-writable (head_in f) (relief f) sound.sides

  head-same : head_in (tidied f) ≡ head_in f
  head-same = encoded-head (head_in f) (tidied_plunges f)

  plunges-same : plunges_in (tidied f) ≡ tidied_plunges f
  plunges-same = encoded-plunges (head_in f) (tidied_plunges f)

  relief-same : relief (tidied f) ≡ drawing (head_in f) (tidied_plunges f)
  relief-same = ap₂ drawing head-same plunges-same

  pub draws-again : (c : Cell) → at (head_in (tidied f)) (relief (tidied f)) c ≡ at (head_in f) (relief f) c
  draws-again c = ap₂ (λ (h : Head) (m : List ℕ). at h m c) head-same relief-same ∙ canonical-draws (head_in f) largest_erosion sides (plunges_in f) c

  pub tidied-twice : tidied (tidied f) ≡ tidied f
  tidied-twice =
      ap₂ (λ (h : Head) (qs : List Plunge). encoded h (canonical h largest_erosion qs)) head-same plunges-same
      ∙ ap (encoded (head_in f)) (canonical-twice (head_in f) largest_erosion sides (plunges_in f))

  -- each plunge of the file fits under the relief that the file draws
  pub original-fits : (q : Plunge) → Memᴰ q (plunges_in f) → Fits (head_in f) (relief f) q
  original-fits q i = go (gather-out (total f) 0 _ i)
    where
      go : (j : ℕ) × (0 ≤ j) × (j < 0 + total f) × Memᴰ q (nth_plunge f j ∷ []) → Fits (head_in f) (relief f) q
      go (j, a, b, Memᴰ.tail m) = absurd (Memᴰ.not-nil m)
      go (j, a, b, Memᴰ.head e) =
          record {
            wholly = whole;
            some = subst (λ (o : Plunge). 1 ≤ o.depth) (sym e) (sound.deep j (omega arith));
            deep = λ o h. omega (
              arith,
              le-drawn (head_in f).kind (plunges_in f) o i h,
              at-tabulated (head_in f) (drawn (head_in f).kind (plunges_in f)) o (whole o h),
            );
          }
        where
          whole : Rattle.geometry.specs.Plunges.OnPlate (head_in f) q
          whole = (fits_plate-iff (head_in f) q).0 (subst (λ (o : Plunge). fits_plate (head_in f) o ≡ true) (sym e) (sound.fits j (omega arith)))

  -- the check's answer, with work buffers long enough
  pub check-is : (s : Checking f) → (s.answer ≡ Ok tt) ↔ (tidied f ≡ f)
  check-is s = (
    λ e. sym (alike-equal f (tidied f) (back (alike f (tidied f)) (sym verdict ∙ sym s.call.answer ∙ e))),
    λ e. s.call.answer ∙ verdict ∙ ap last (alike_same f (tidied f) (sym e)),
  )
    where
      last : Bool → Verdict
      last b = first_met (trial (not b) 12 (common f (tidied f)) ∷ [])

      verdict : check_verdict f s.a s.b s.c ≡ last (alike f (tidied f))
      verdict = after-file f _ ok ∙ after (work_trial f s.a s.b s.c ∷ [])
          (trial (not (alike f (tidied f))) 12 (common f (tidied f)) ∷ []) s.works

      back : (b : Bool) → last b ≡ Ok tt → b ≡ true
      back true e = refl
      back false e = refused-not _ e

  canonical-of : Canonical f (tidied f)
  canonical-of =
      record {
        head = head-same;
        plunges = plunges-same;
        order = subst Rising (sym plunges-same) (listing-rising (head_in f) largest_erosion (relief f));
        readable = encoded-readable (head_in f) (tidied_plunges f) good;
        draws = draws-again;
        maximal = λ q. subst (λ (qs : List Plunge). Memᴰ q qs ↔ Maximal (head_in f) (relief f) q) (sym plunges-same)
            (listed-iff-maximal (head_in f) largest_erosion (relief f) sides q);
        covered = λ q h. let t = fits-inside (head_in f) largest_erosion (relief f) sides q h in
            (t.0, subst (λ (qs : List Plunge). Memᴰ t.0 qs) (sym plunges-same) t.1, t.2);
        original = original-fits;
        again = λ t. file-is (tidied f) t ∙ tidied-twice;
        checked = check-is;
      }

-- ---- two files

-- a head is its kind and its plate size
head-ext : (p q : Head) → SamePlate p q → p ≡ q
head-ext p q s =
    ap (λ (k : Kind). record { kind = k; width = p.width; height = p.height }) s.kinds
    ∙ ap (λ (w : ℕ). record { kind = q.kind; width = w; height = p.height }) s.widths
    ∙ ap (λ (h : ℕ). record { kind = q.kind; width = q.width; height = h }) s.heights

module _ (f g : List ℕ) (okf : IsReadable f) (okg : IsReadable g) where
  -- one list of plunges for each plate: the tidied files are equal exactly when the plates and the reliefs are
  tidied-equal : tidied f ≡ tidied g → SamePlate (head_in f) (head_in g) × SameRelief f g
  tidied-equal e = (subst (SamePlate (head_in f)) heads (record { kinds = refl; widths = refl; heights = refl }), same)
    where
      parts : (head_in f ≡ head_in g) × (tidied_plunges f ≡ tidied_plunges g)
      parts = encoded-injective (head_in f) (head_in g) (tidied_plunges f) (tidied_plunges g) e

      heads : head_in f ≡ head_in g
      heads = parts.0

      same : SameRelief f g
      same c o =
          (canonical-iff (head_in f) largest_erosion (sides f okf) (plunges_in f) (plunges_in g)).0
          (parts.1 ∙ sym (ap (λ (h : Head). canonical h largest_erosion (plunges_in g)) heads)) c
          ∙ ap (λ (h : Head). at h (drawing h (plunges_in g)) c) heads

  same-tidied : SamePlate (head_in f) (head_in g) → SameRelief f g → tidied f ≡ tidied g
  same-tidied s r = ap (encoded (head_in f)) lists ∙ ap (λ (h : Head). encoded h (canonical h largest_erosion (plunges_in g))) heads
    where
      heads : head_in f ≡ head_in g
      heads = head-ext (head_in f) (head_in g) s

      every : (c : Cell) → at (head_in f) (relief f) c ≡ at (head_in f) (drawing (head_in f) (plunges_in g)) c
      every c = go (on-or-off (head_in f) c)
        where
          go : On (head_in f) c ⊎ ((m : List ℕ) → at (head_in f) m c ≡ 0) → at (head_in f) (relief f) c ≡ at (head_in f) (drawing (head_in f) (plunges_in g)) c
          go (inl o) = r c o ∙ sym (ap (λ (h : Head). at h (drawing h (plunges_in g)) c) heads)
          go (inr z) = z _ ∙ sym (z _)

      lists : tidied_plunges f ≡ canonical (head_in f) largest_erosion (plunges_in g)
      lists = (canonical-iff (head_in f) largest_erosion (sides f okf) (plunges_in f) (plunges_in g)).1 every

-- Demand 3: for any two files, each tidied with buffers long enough
pub canonical-form : {f g : List ℕ} (s : Tidying f) (t : Tidying g) → CanonicalForm s t
canonical-form {f} {g} s t =
    record {
      lists = (tidying-lists f s, tidying-lists g t);
      equal = (
        (λ e. tidied-equal f g okf okg (sym (file-is f s) ∙ e ∙ file-is g t)),
        λ h. file-is f s ∙ same-tidied f g okf okg h.0 h.1 ∙ sym (file-is g t),
      );
      left = subst (Canonical f) (sym (file-is f s)) (canonical-of f okf);
      right = subst (Canonical g) (sym (file-is g t)) (canonical-of g okg);
    }
  where
    okf : IsReadable f
    okf = s.readable

    okg : IsReadable g
    okg = t.readable

-- nor is the demand empty: every readable file has its tidying, and its check
pub tidiable : (f : List ℕ) → IsReadable f → Tidiable f
tidiable f ok = record {
  within = λ out a b c works room. (tidying-in out a b c works room, refl, refl, refl, refl);
  tidying = tidying-in (tidied f) (relief f) (relief f) (relief f) works (exact-room (head_in f) (tidied_plunges f));
  checking = record {
    a = relief f;
    a' = relief f;
    b = relief f;
    b' = relief f;
    c = relief f;
    c' = relief f;
    answer = check_verdict f (relief f) (relief f) (relief f);
    call = record { answer = refl; first = kept-work; second = kept-work; third = kept-work };
    works = works;
  };
}
  where
    -- what the call leaves: the tidied file, and work buffers as they were
    tidying-in : (out a b c : List ℕ) → NoneMet (work_trial f a b c ∷ []) → NoneMet (room_for (head_in f) (tidied_plunges f) out) → Tidying f
    tidying-in out a b c works room = record {
      out = out;
      out' = written v (tidied f) out;
      a = a;
      a' = a;
      b = b;
      b' = b;
      c = c;
      c' = c;
      answer = list_answer v (head_in f) (tidied_plunges f) (erosion_count (head_in f) (relief f));
      call = record {
        list = record { answer = refl; bytes = refl; first = worked-none v _ a; second = worked-none v _ b };
        third = worked-none v _ c;
      };
      readable = ok;
      works = works;
      room = room;
    }
      where
        v : Verdict
        v = tidy_verdict f out a b c

    -- a buffer as long as the relief is long enough
    works : NoneMet (work_trial f (relief f) (relief f) (relief f) ∷ [])
    works = long-works (head_in f) (length (relief f)) (length-tabulated (head_in f) (drawn (head_in f).kind (plunges_in f)))

    kept-work : Worked (check_verdict f (relief f) (relief f) (relief f)) (area (head_in f)) (relief f) (relief f)
    kept-work = worked-none _ _ _
