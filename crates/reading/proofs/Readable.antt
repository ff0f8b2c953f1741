-- Laws of readable files: what they have, that their bytes are those of their head and plunges, and that what is written is read back.
use Rattle.std.specs.Prelude.{Ok}
use mathlib.Core.Path.{◌≡◌, refl, sym, ap, ◌∙◌, subst}
use mathlib.Core.Bool.{true, false}
use mathlib.Core.List.Memᴰ
use mathlib.Core.List.{List, [], ◌∷◌, ◌++◌, append-nil, append_assoc, Memᴰ}
use Prim.Native.Nat.{ℕ, zero, suc, ◌+◌, ◌≤◌, ◌<◌}
use native.Mathlib.Omega.{arith}
use native.Mathlib.Nat.{add-zero}
use native.Mathlib.Decide.{dec_le}
use borrow.Author.Tests.{le-leb}
use lib.ListN.{length, get_or, drop}
use lib.Seq.{drop-length, drop-drop, drop_at}
use Rattle.geometry.specs.declared.Head.{Head}
use Rattle.geometry.specs.declared.Plunge.{Plunge}
use Rattle.geometry.specs.declared.Size.{Size}
use Rattle.geometry.specs.declared.Size.TheVariants.{Small}
use Rattle.geometry.specs.Sizes.{size_of}
use Rattle.geometry.specs.Lists.{gather}
use Rattle.geometry.specs.Forms.{kind_byte}
use Rattle.geometry.specs.Plunges.{fits_plate}
use Rattle.geometry.proofs.Sizes.{small_size}
use Rattle.theory.proofs.Lists.{gather-out, length-each}
use Rattle.refusal.specs.Refusals.{first_met, largest_side, bad_sides}
use Rattle.fields.specs.Fields.{head_field, head_field_of, plunge_field, plunge_fields, end_field, file_length, encoded, plunge_bytes, end_bytes, place}
use Rattle.fields.proofs.Encoding.{field-length, head-length, bytes-none, place-next, place-le, place-few, encoded-length, encoded-parts}
use Rattle.reading.specs.declared.Step.{Step}
use Rattle.reading.specs.declared.Step.TheVariants.{Onward, Ended, Fault}
use Rattle.reading.specs.Reading.{head_in, is_plunge, is_end, plunge_at, plate_trials, head_trials, fields_from, IsReadable, total, nth_plunge, plunges_up_to, plunges_in, read_answer, read}
use Rattle.reading_fields.specs.Openings.{open_trials}
use Rattle.reading_fields.specs.Either.{plunge_opening, end_opening, opens_either}
use Rattle.reading.specs.Steps.{step_at, Contained}
use Rattle.refusal.proofs.Trials.{and_then, first-append, both-accepted, not-refused}
use Rattle.reading.proofs.Steps.{Plated, head-right, plunge-right, content-plunge, content-end, field_open, field-content}
use Rattle.reading_fields.proofs.Openings.{open-whole, end-right}
use Rattle.reading.proofs.FieldSteps.{after_step, fields-step, Passed, Closed, onward, ended, whole-total, file-first, small-head, head-begins}
use Rattle.reading.proofs.Bytes.{head-kind, head-bytes, plunge-bytes, end-bytes, number-below, written-plunge, written-end, written-head, kind-named}
use Rattle.refusal.specs.Sides.{Sides}

-- ---- what a readable file has, field by field

pub record Checked (f : List ℕ) (m : ℕ) : Type 0 where
  pub head : Plated f
  pub plunges : (i : ℕ) → i < m → Passed (head_in f) f i
  pub closed : Closed (head_in f) f m

-- right plunges from one on, then the right end
record ReadUpTo (p : Head) (f : List ℕ) (n : ℕ) : Type 0 where
  last : ℕ
  from : n ≤ last
  plunges : (i : ℕ) → n ≤ i → i < last → Passed p f i
  closed : Closed p f last

read_from : (more : ℕ) (p : Head) (f : List ℕ) (n : ℕ) → length f < n + more → place p n ≤ length f → first_met (fields_from more p f n) ≡ Ok tt
    → ReadUpTo p f n
read_from zero p f n l h e = absurd (omega (arith, place-few p n))
read_from (suc more) p f n l h e = go (step_at p f n) refl (sym (fields-step more p f n) ∙ e) (read_from more p f (suc n))
  where
    go : (s : Step) → step_at p f n ≡ s → after_step s (first_met (fields_from more p f (suc n))) ≡ Ok tt
        → (length f < suc n + more → place p (suc n) ≤ length f → first_met (fields_from more p f (suc n)) ≡ Ok tt → ReadUpTo p f (suc n)) → ReadUpTo p f n
    go Onward g k r =
        let here = onward p f n g in
        let w = r (omega arith) (omega (arith, here.room, place-next p n)) k in
        record { last = w.last; from = omega (arith, w.from); plunges = λ i a b. each here w i (dec_le i n) a b; closed = w.closed }
      where
        each : Passed p f n → (w : ReadUpTo p f (suc n)) (i : ℕ) → Dec (i ≤ n) → n ≤ i → i < w.last → Passed p f i
        each here w i (yes d) a b = let e : n ≡ i = omega arith in subst (λ (j : ℕ). Passed p f j) e here
        each here w i (no d) a b = w.plunges i (omega arith) b
    go Ended g k r = record { last = n; from = omega arith; plunges = λ i a b. absurd (omega arith); closed = ended p f n g }
    go (Fault x) g k r = absurd (not-refused x k)

-- its head and its fields refuse nothing
readable-parts : (f : List ℕ) → IsReadable f → (first_met (head_trials f) ≡ Ok tt) × (first_met (fields_from (suc (length f)) (head_in f) f 0) ≡ Ok tt)
readable-parts f e = both-accepted (first_met (head_trials f)) (first_met (fields_from (suc (length f)) (head_in f) f 0)) (sym (file-first f) ∙ e)

pub readable-head : (f : List ℕ) → IsReadable f → first_met (head_trials f) ≡ Ok tt
readable-head f e = (readable-parts f e).0

pub readable-checked : (f : List ℕ) → IsReadable f → Checked f (total f)
readable-checked f e =
    let t = readable-parts f e in
    let h = head-right f t.0 in
    let w = read_from (suc (length f)) (head_in f) f 0 (omega arith) (head-begins f (head_in f) refl t.0) t.1 in
    subst (λ (m : ℕ). Checked f m) (sym (whole-total f w.last w.closed.whole))
    (record { head = h; plunges = λ i b. w.plunges i (omega arith) b; closed = w.closed })

-- what every call may take of a readable file
pub record Sound (f : List ℕ) : Type 0 where
  pub sides : Sides (head_in f)
  pub kind : kind_byte (head_in f).kind ≡ get_or f 3 0
  pub room : length f ≡ file_length (head_in f) (total f)
  pub fits : (i : ℕ) → i < total f → fits_plate (head_in f) (nth_plunge f i) ≡ true
  pub deep : (i : ℕ) → i < total f → 1 ≤ (nth_plunge f i).depth

pub readable-sound : (f : List ℕ) → IsReadable f → Sound f
readable-sound f e =
    let c = readable-checked f e in
    record {
      sides = c.head.sides;
      kind = head-kind f c.head.head c.head.named;
      room = c.closed.whole;
      fits = λ i h. (c.plunges i h).fits;
      deep = λ i h. (c.plunges i h).deep;
    }

-- ---- its bytes are those of its head and its plunges

pub length-plunges_in : (f : List ℕ) → length (plunges_in f) ≡ total f
length-plunges_in f = length-each (nth_plunge f) (total f) 0

fields-bytes : (p : Head) (f : List ℕ) (k n : ℕ) → ((i : ℕ) → n ≤ i → i < n + k → Passed p f i) → ((i : ℕ) → get_or f i 0 < 256)
    → drop (place p n) f ≡ plunge_fields (size_of p) (gather k n (λ i. plunge_at (size_of p) f (place p i) ∷ [])) ++ drop (place p (n + k)) f
fields-bytes p f zero n h bytes = ap (λ (j : ℕ). drop (place p j) f) (sym (add-zero n))
fields-bytes p f (suc k) n h bytes =
    let here = h n (omega arith) (omega arith) in
    let last : suc n + k ≡ n + suc k = omega arith in
    let s = size_of p in
    plunge-bytes s f (place p n) here.room here.tagged bytes
    ∙ ap (λ l. plunge_field s (plunge_at s f (place p n)) ++ l)
    (ap (λ (j : ℕ). drop j f) (sym (place-next p n))
    ∙ fields-bytes p f k (suc n) (λ i a b. h i (omega arith) (omega arith)) bytes
    ∙ ap (λ (j : ℕ). plunge_fields s (gather k (suc n) (λ i. plunge_at s f (place p i) ∷ [])) ++ drop (place p j) f) last)
    ∙ sym (append_assoc (plunge_field s (plunge_at s f (place p n))) (plunge_fields s (gather k (suc n) (λ i. plunge_at s f (place p i) ∷ [])))
    (drop (place p (n + suc k)) f))

pub readable-encoded : (f : List ℕ) → IsReadable f → ((i : ℕ) → get_or f i 0 < 256) → f ≡ encoded (head_in f) (plunges_in f)
readable-encoded f e bytes =
    let c = readable-checked f e in
    let n = total f in
    let p = head_in f in
    let whole : place p n + end_bytes ≡ length f = sym c.closed.whole in
    head-bytes f c.head (small-head f c.head.sides)
    ∙ ap (λ l. head_field p ++ l)
    (fields-bytes p f n 0 (λ i a b. c.plunges i (omega arith)) bytes
    ∙ ap (λ l. plunge_fields (size_of p) (plunges_in f) ++ l)
    (ap (λ (j : ℕ). drop (place p j) f) (zero-plus n)
    ∙ end-bytes f (place p n) (omega (arith, whole)) c.closed.tagged bytes
    ∙ ap (λ (m : ℕ). end_field m ++ drop (place p n + end_bytes) f) (c.closed.number ∙ sym (length-plunges_in f))
    ∙ ap (λ l. end_field (length (plunges_in f)) ++ l) (ap (λ (j : ℕ). drop j f) whole ∙ drop-length f)
    ∙ append-nil (end_field (length (plunges_in f)))))
    ∙ sym (encoded-parts p (plunges_in f))
  where
    zero-plus : (n : ℕ) → 0 + n ≡ n
    zero-plus n = omega arith

-- ---- heads and lists that a readable file can hold

pub record Writable (p : Head) (qs : List Plunge) : Type 0 where
  pub sides : Sides p
  pub right : (q : Plunge) → Memᴰ q qs → (fits_plate p q ≡ true) × (1 ≤ q.depth)
  pub few : length qs < 4294967296

pub readable-right : (f : List ℕ) → IsReadable f → (q : Plunge) → Memᴰ q (plunges_in f) → (fits_plate (head_in f) q ≡ true) × (1 ≤ q.depth)
readable-right f e q m =
    let c = readable-checked f e in
    let t = gather-out (total f) 0 (λ i. nth_plunge f i ∷ []) m in
    let here = c.plunges t.0 (omega (arith, t.2)) in
    let is : q ≡ nth_plunge f t.0 = Memᴰ.eq_of_singleton t.3 in
    subst (λ o. (fits_plate (head_in f) o ≡ true) × (1 ≤ o.depth)) (sym is) (here.fits, here.deep)

pub readable-writable : (f : List ℕ) → IsReadable f → ((i : ℕ) → get_or f i 0 < 256) → Writable (head_in f) (plunges_in f)
readable-writable f e bytes =
    let s = readable-sound f e in
    let c = readable-checked f e in
    record {
      sides = s.sides;
      right = readable-right f e;
      few = omega (arith, number-below f (place (head_in f) (total f)) bytes, c.closed.number, length-plunges_in f);
    }

-- ---- what is written is read back

-- the first field of a list, and what is past it
first_field : (p : Head) (f : List ℕ) (m n : ℕ) (q : Plunge) (qs : List Plunge) → drop (place p n) f ≡ plunge_fields (size_of p) (q ∷ qs) ++ end_field m
    → (plunge_at (size_of p) f (place p n) ≡ q) × (is_plunge (size_of p) f (place p n) ≡ true) × (is_end f (place p n) ≡ false)
first_field p f m n q qs e =
    let s = size_of p in
    written-plunge s f (place p n) q (plunge_fields s qs ++ end_field m) (e ∙ append_assoc (plunge_field s q) (plunge_fields s qs) (end_field m))

next_field : (p : Head) (f : List ℕ) (m n : ℕ) (q : Plunge) (qs : List Plunge) → drop (place p n) f ≡ plunge_fields (size_of p) (q ∷ qs) ++ end_field m
    → drop (place p (suc n)) f ≡ plunge_fields (size_of p) qs ++ end_field m
next_field p f m n q qs e =
    let s = size_of p in
    let rest = plunge_fields s qs ++ end_field m in
    ap (λ (j : ℕ). drop j f) (place-next p n)
    ∙ sym (drop-drop (plunge_bytes s) (place p n) f)
    ∙ ap (drop (plunge_bytes s)) (e ∙ append_assoc (plunge_field s q) (plunge_fields s qs) (end_field m))
    ∙ drop_at (plunge_field s q) rest (plunge_bytes s) (field-length s q)

-- the plunges of a file whose fields from the n-th on are those of a list
gathered : (p : Head) (f : List ℕ) (m n : ℕ) (qs : List Plunge) → drop (place p n) f ≡ plunge_fields (size_of p) qs ++ end_field m
    → gather (length qs) n (λ i. plunge_at (size_of p) f (place p i) ∷ []) ≡ qs
gathered p f m n [] e = refl
gathered p f m n (q ∷ qs) e =
    let t = first_field p f m n q qs e in
    let more = gathered p f m (suc n) qs (next_field p f m n q qs e) in
    λ i. t.0 i ∷ more i

-- past its head a file is its plunges and its end
pub encoded-fields : (p : Head) (qs : List Plunge) → drop (place p 0) (encoded p qs) ≡ plunge_fields (size_of p) qs ++ end_field (length qs)
encoded-fields p qs =
    ap (drop (place p 0)) (encoded-parts p qs)
    ∙ drop_at (head_field p) (plunge_fields (size_of p) qs ++ end_field (length qs)) (place p 0)
    (head-length (size_of p) p ∙ omega (arith, bytes-none (size_of p)))

pub encoded-head : (p : Head) (qs : List Plunge) → head_in (encoded p qs) ≡ p
encoded-head p qs = ap head_in (encoded-parts p qs) ∙ written-head p (plunge_fields (size_of p) qs ++ end_field (length qs))

pub encoded-total : (p : Head) (qs : List Plunge) → total (encoded p qs) ≡ length qs
encoded-total p qs =
    whole-total (encoded p qs) (length qs) (encoded-length p qs ∙ ap (λ (h : Head). file_length h (length qs)) (sym (encoded-head p qs)))

pub encoded-plunges : (p : Head) (qs : List Plunge) → plunges_in (encoded p qs) ≡ qs
encoded-plunges p qs =
    ap (λ (n : ℕ). plunges_up_to n (encoded p qs)) (encoded-total p qs)
    ∙ ap (λ (h : Head). gather (length qs) 0 (λ i. plunge_at (size_of h) (encoded p qs) (place h i) ∷ [])) (encoded-head p qs)
    ∙ gathered p (encoded p qs) (length qs) 0 qs (encoded-fields p qs)

module _ (p : Head) (f : List ℕ) where
  -- a field that stands there whole opens
  opening-right : (n : ℕ) → Contained p f (place p n) → opens_either end_opening (plunge_opening (size_of p)) f (place p n) ≡ true
      → (Ok tt) ≡ first_met (field_open p f n)
  opening-right n h e = open-whole f (place p n) _ _ (omega (arith, h)) (omega (arith, h)) e (omega (arith, h))

  step-onward : (n : ℕ) (q : Plunge) → plunge_at (size_of p) f (place p n) ≡ q → is_plunge (size_of p) f (place p n) ≡ true → is_end f (place p n) ≡ false
      → place p n + plunge_bytes (size_of p) ≤ length f → fits_plate p q ≡ true → 1 ≤ q.depth → step_at p f n ≡ Onward
  step-onward n q is tagged no_end h g d =
      let fits : fits_plate p (plunge_at (size_of p) f (place p n)) ≡ true = ap (fits_plate p) is ∙ g in
      let deep : (plunge_at (size_of p) f (place p n)).depth ≡ q.depth = ap (λ o. o.depth) is in
      sym (field-content p f n (Ok tt) (opening-right n (rw no_end h) (rw no_end tagged)) refl)
      ∙ sym (content-plunge p f (place p n) n (Ok tt) no_end (plunge-right p f (place p n) fits (λ z. omega arith)))

  step-ended : (n : ℕ) (rest : List ℕ) → drop (place p n) f ≡ end_field n ++ rest → n < 4294967296 → length f ≡ file_length p n → step_at p f n ≡ Ended
  step-ended n rest e h w =
      let t = written-end f (place p n) n rest e h in
      let room : place p n + end_bytes ≤ length f = omega arith in
      sym (field-content p f n (Ok tt) (opening-right n (rw t.0 room) (rw t.0)) refl)
      ∙ sym (content-end p f (place p n) n (Ok tt) t.0 (end-right f (place p n) n t.1 (omega arith)))

  -- the fields of a list of right plunges, and the end, refuse nothing
  written_read : (more n m : ℕ) (qs : List Plunge) → drop (place p n) f ≡ plunge_fields (size_of p) qs ++ end_field m → n + length qs ≡ m → m < 4294967296
      → length f ≡ file_length p m
      → length qs < more → ((q : Plunge) → Memᴰ q qs → (fits_plate p q ≡ true) × (1 ≤ q.depth)) → first_met (fields_from more p f n) ≡ Ok tt
  written_read zero n m qs e s h w l r = absurd (omega arith)
  written_read (suc more) n m [] e s h w l r =
      let k : m ≡ n = omega arith in
      fields-step more p f n
      ∙ ap (λ x. after_step x (first_met (fields_from more p f (suc n))))
      (step-ended n [] (e ∙ ap end_field k ∙ sym (append-nil (end_field n))) (omega arith) (w ∙ ap (file_length p) k))
  written_read (suc more) n m (q ∷ qs) e s h w l r =
      let here = r q (Memᴰ.head refl) in
      let t = first_field p f m n q qs e in
      let room : place p n + plunge_bytes (size_of p) ≤ length f = omega (arith, w, place-next p n, place-le p (suc-le n m (omega arith))) in
      fields-step more p f n
      ∙ ap (λ x. after_step x (first_met (fields_from more p f (suc n)))) (step-onward n q t.0 t.1 t.2 room here.0 here.1)
      ∙ written_read more (suc n) m qs (next_field p f m n q qs e) (omega arith) h w (omega arith) (λ o a. r o (Memᴰ.tail a))
    where
      suc-le : (a b : ℕ) → a < b → suc a ≤ b
      suc-le a b h = omega arith

sides-good : (w h : ℕ) → 1 ≤ w → w ≤ largest_side → 1 ≤ h → h ≤ largest_side → bad_sides w h ≡ false
sides-good w h a b c d = rw (le-leb 1 w a, le-leb w largest_side b, le-leb 1 h c, le-leb h largest_side d)

head-written : (p : Head) (rest : List ℕ) → size_of p ≡ Small → bad_sides p.width p.height ≡ false → first_met (head_trials (head_field p ++ rest)) ≡ Ok tt
head-written p rest small s =
    let f = head_field_of Small p ++ rest in
    ap (λ (t : Size). first_met (head_trials (head_field_of t p ++ rest))) small
    ∙ first-append (open_trials f 0 true 3) (plate_trials (kind_byte p.kind) p.width p.height)
    ∙ ap (λ v. and_then v (first_met (plate_trials (kind_byte p.kind) p.width p.height)))
    (sym (open-whole f 0 true 3 (omega arith) (omega arith) refl (omega arith)))
    ∙ rw (kind-named p.kind, s)

pub encoded-readable : (p : Head) (qs : List Plunge) → Writable p qs → IsReadable (encoded p qs)
encoded-readable p qs w =
    let f = encoded p qs in
    let head : first_met (head_trials f) ≡ (Ok tt) =
    subst (λ l. first_met (head_trials l) ≡ Ok tt) (sym (encoded-parts p qs))
    (head-written p (plunge_fields (size_of p) qs ++ end_field (length qs)) (small_size p w.sides.narrow w.sides.low)
    (sides-good p.width p.height w.sides.wide w.sides.narrow w.sides.tall w.sides.low)) in
    let fields : first_met (fields_from (suc (length f)) p f 0) ≡ (Ok tt) =
    written_read p f (suc (length f)) 0 (length qs) qs (encoded-fields p qs) (omega arith) w.few (encoded-length p qs)
    (omega (arith, encoded-length p qs, place-few p (length qs))) w.right in
    file-first f
    ∙ ap (λ v. and_then v (first_met (fields_from (suc (length f)) (head_in f) f 0))) head
    ∙ ap (λ h. first_met (fields_from (suc (length f)) h f 0)) (encoded-head p qs)
    ∙ fields

-- reading what is written gives back the head and the number of the plunges
pub encoded-read : (p : Head) (qs : List Plunge) → Writable p qs → read (encoded p qs) ≡ Ok (record { head = p; plunges = length qs })
encoded-read p qs w =
    ap (λ v. read_answer v (encoded p qs)) (encoded-readable p qs w)
    ∙ (λ i. Ok (record { head = encoded-head p qs i; plunges = encoded-total p qs i }))
