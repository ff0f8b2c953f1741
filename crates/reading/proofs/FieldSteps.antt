-- What the loop over the fields keeps, and how a field carries it on.
use Rattle.std.specs.Prelude.{Ok, Err}
use mathlib.Core.Path.{◌≡◌, refl, sym, ap, ◌∙◌, subst}
use mathlib.Core.Bool.{Bool, true, false, cond}
use mathlib.Core.List.{List, []}
use Prim.Native.Nat.{ℕ, suc, ◌+◌, ◌-◌, ◌*◌, ◌≤◌}
use native.Mathlib.Omega.{arith}
use native.Mathlib.Numerals.{add-one}
use lib.ListN.{length, get_or}
use Rattle.geometry.specs.declared.Head.{Head}
use Rattle.geometry.specs.declared.Size.{Size}
use Rattle.geometry.specs.declared.Size.TheVariants.{Small}
use Rattle.geometry.specs.Sizes.{size_of}
use Rattle.geometry.specs.Plunges.{fits_plate}
use Rattle.geometry.proofs.Sizes.{small_size}
use Rattle.refusal.specs.Sides.{Sides}
use Rattle.refusal.specs.declared.Refusal.{Refusal}
use Rattle.refusal.specs.Refusals.{Trial, first_met, largest_side, head_of}
use Rattle.reading.specs.declared.Step.{Step}
use Rattle.reading.specs.declared.Step.TheVariants.{Onward, Ended, Fault}
use Rattle.reading.specs.Reading.{head_in, is_end, is_plunge, plunge_at, head_trials, plunge_trials, field_trials, fields_from, file_trials, total, read_answer, read}
use Rattle.reading_fields.specs.Openings.{number_at, end_trials}
use Rattle.reading.specs.Steps.{step_of, step_at}
use Rattle.refusal.proofs.Trials.{and_then, first-append}
use Rattle.reading.proofs.Steps.{head-right, field-right, right-plunge, right_end, contained-plunge, contained-end}
use Rattle.fields.specs.Fields.{head_bytes, plunge_bytes, place, file_length}
use Rattle.fields.proofs.Encoding.{place-next, place-few, length-total}
use Rattle.refusal.specs.Refusals.{Verdict}

-- ---- one field, and those after it

-- the verdict on a field and those after it, by what the field tells
abbrev pub after_step : Step → Verdict → Verdict
after_step Onward v = v
after_step Ended v = Ok tt
after_step (Fault r) v = Err r

pub fields-step : (more : ℕ) (p : Head) (f : List ℕ) (n : ℕ)
    → first_met (fields_from (suc more) p f n) ≡ after_step (step_at p f n) (first_met (fields_from more p f (suc n)))
unfolding fields_from
fields-step more p f n = first-append (field_trials p f n) (cond (is_end f (place p n)) [] (fields_from more p f (suc n))) ∙ go (is_end f (place p n))
    (first_met (field_trials p f n)) (fields_from more p f (suc n))
  where
    go : (b : Bool) (v : Verdict) (rest : List Trial) → and_then v (first_met (cond b [] rest)) ≡ after_step (step_of (cond b Ended Onward) v) (first_met rest)
    go true (Ok _) rest = refl
    go false (Ok _) rest = refl
    go b (Err r) rest = refl

onward-by : (b : Bool) (v : Verdict) → step_of (cond b Ended Onward) v ≡ Onward → (b ≡ false) × (v ≡ Ok tt)
onward-by true (Ok _) e = let z : ◌≡◌ {A = ℕ} 0 1 = cc in absurd (omega arith)
onward-by false (Ok _) e = (refl, refl)
onward-by b (Err r) e = let z : ◌≡◌ {A = ℕ} 0 1 = cc in absurd (omega arith)

ended_by : (b : Bool) (v : Verdict) → step_of (cond b Ended Onward) v ≡ Ended → (b ≡ true) × (v ≡ Ok tt)
ended_by true (Ok _) e = (refl, refl)
ended_by false (Ok _) e = let z : ◌≡◌ {A = ℕ} 0 1 = cc in absurd (omega arith)
ended_by b (Err r) e = let z : ◌≡◌ {A = ℕ} 0 1 = cc in absurd (omega arith)

-- what a right plunge's field has
pub record Passed (p : Head) (f : List ℕ) (n : ℕ) : Type 0 where
  pub room : place p n + plunge_bytes (size_of p) ≤ length f
  pub tagged : is_plunge (size_of p) f (place p n) ≡ true
  pub fits : fits_plate p (plunge_at (size_of p) f (place p n)) ≡ true
  pub deep : 1 ≤ (plunge_at (size_of p) f (place p n)).depth

pub onward : (p : Head) (f : List ℕ) (n : ℕ) → step_at p f n ≡ Onward → Passed p f n
onward p f n e =
    let t = onward-by (is_end f (place p n)) (first_met (field_trials p f n)) e in
    let s = field-right p f n t.1 in
    let c = right-plunge p f (place p n) (ap (λ b. first_met (cond b (end_trials f (place p n) n) (plunge_trials p f (place p n)))) (sym t.0) ∙ s.2) in
    record {
      room = contained-plunge p f (place p n) s.0 t.0;
      tagged = ap (λ b. cond b true (is_plunge (size_of p) f (place p n))) (sym t.0) ∙ s.1;
      fits = c.0;
      deep = c.1;
    }

-- what the right end field has
pub record Closed (p : Head) (f : List ℕ) (n : ℕ) : Type 0 where
  pub tagged : is_end f (place p n) ≡ true
  pub number : number_at f (place p n) ≡ n
  pub whole : length f ≡ file_length p n

pub ended : (p : Head) (f : List ℕ) (n : ℕ) → step_at p f n ≡ Ended → Closed p f n
ended p f n e =
    let t = ended_by (is_end f (place p n)) (first_met (field_trials p f n)) e in
    let s = field-right p f n t.1 in
    let c = right_end f (place p n) n (ap (λ b. first_met (cond b (end_trials f (place p n) n) (plunge_trials p f (place p n)))) (sym t.0) ∙ s.2) in
    record { tagged = t.0; number = c.0; whole = omega (arith, contained-end p f (place p n) s.0 t.0, c.1) }

pub whole-total : (f : List ℕ) (n : ℕ) → length f ≡ file_length (head_in f) n → total f ≡ n
whole-total f n e = length-total (head_in f) (length f) n e

-- ---- the loop

-- n plunges are read, and what is left decides the verdict
pub record Reading (p : Head) (f : List ℕ) (n : ℕ) : Type 0 where
  pub within : place p n ≤ length f
  pub rest : first_met (fields_from (suc (length f) - n) p f n) ≡ first_met (fields_from (suc (length f)) p f 0)

pub begun : (p : Head) (f : List ℕ) → place p 0 ≤ length f → Reading p f 0
begun p f h =
    let e : suc (length f) - 0 ≡ suc (length f) = omega arith in
    record { within = h; rest = ap (λ (k : ℕ). first_met (fields_from k p f 0)) e }

module _ (p : Head) (f : List ℕ) (n : ℕ) (r : Reading p f n) where
  answered : after_step (step_at p f n) (first_met (fields_from (length f - n) p f (suc n))) ≡ first_met (fields_from (suc (length f)) p f 0)
  answered =
      let e : suc (length f) - n ≡ suc (length f - n) = omega (arith, r.within, place-few p n) in
      sym (fields-step (length f - n) p f n) ∙ ap (λ (k : ℕ). first_met (fields_from k p f n)) (sym e) ∙ r.rest

  pub turned : step_at p f n ≡ Onward → Reading p f (n + 1)
  turned e =
      let room = (onward p f n e).room in
      let k : suc (length f) - (n + 1) ≡ length f - n = omega arith in
      record {
        within = omega (arith, ap (place p) (add-one n), place-next p n);
        rest =
            ap (λ (m : ℕ). first_met (fields_from m p f (n + 1))) k
            ∙ ap (λ (m : ℕ). first_met (fields_from (length f - n) p f m)) (add-one n)
            ∙ ap (λ s. after_step s (first_met (fields_from (length f - n) p f (suc n)))) (sym e)
            ∙ answered;
      }

  pub stopped : p ≡ head_in f → step_at p f n ≡ Ended → Ok (record { head = p; plunges = n }) ≡ read_answer (first_met (fields_from (suc (length f)) p f 0)) f
  stopped h e =
      let t = whole-total f n ((ended p f n e).whole ∙ ap (λ (o : Head). file_length o n) h) in
      (λ i. Ok (record { head = h i; plunges = sym t i }))
      ∙ ap (λ v. read_answer v f) (ap (λ s. after_step s (first_met (fields_from (length f - n) p f (suc n)))) (sym e) ∙ answered)

  pub faulted : (x : Refusal) → step_at p f n ≡ Fault x → Err x ≡ read_answer (first_met (fields_from (suc (length f)) p f 0)) f
  faulted x e = ap (λ v. read_answer v f) (ap (λ s. after_step s (first_met (fields_from (length f - n) p f (suc n)))) (sym e) ∙ answered)

-- ---- the file: its head, then its fields

-- the head made of three bytes of a file
pub head-is : (f : List ℕ) (h : Head) (x y : ℕ) → first_met (head_trials f) ≡ Ok tt → h ≡ head_of (get_or f 3 0) x y → x ≡ get_or f 4 0 → y ≡ get_or f 5 0
    → h ≡ head_in f
head-is f h x y g e a b =
    e ∙ ap (λ (w : ℕ). head_of (get_or f 3 0) w y) a ∙ ap (λ (w : ℕ). head_of (get_or f 3 0) (get_or f 4 0) w) b ∙ sym (head-right f g).head

-- a head that was read has a small plate, and the fields follow it
pub small-head : (f : List ℕ) → Sides (head_in f) → size_of (head_in f) ≡ Small
small-head f s = small_size (head_in f) s.narrow s.low

pub head-begins : (f : List ℕ) (h : Head) → h ≡ head_in f → first_met (head_trials f) ≡ Ok tt → place h 0 ≤ length f
head-begins f h e g =
    let r = head-right f g in
    subst (λ (o : Head). place o 0 ≤ length f) (sym e)
    (subst (λ (s : Size). head_bytes s + plunge_bytes s * 0 ≤ length f) (sym (small-head f r.sides)) r.room)

pub head-narrow : (f : List ℕ) (h : Head) → h ≡ head_in f → first_met (head_trials f) ≡ Ok tt → h.width ≤ largest_side
head-narrow f h e g = let s = (head-right f g).sides.narrow in omega (arith, ap (λ o. o.width) e)

pub file-first : (f : List ℕ) → first_met (file_trials f) ≡ and_then (first_met (head_trials f)) (first_met (fields_from (suc (length f)) (head_in f) f 0))
unfolding file_trials
file-first f = first-append (head_trials f) (fields_from (suc (length f)) (head_in f) f 0)

pub read-on : (f : List ℕ) (h : Head) → h ≡ head_in f → first_met (head_trials f) ≡ Ok tt → read_answer (first_met (fields_from (suc (length f)) h f 0)) f ≡ read f
read-on f h g e =
    ap (λ o. read_answer (first_met (fields_from (suc (length f)) o f 0)) f) g
    ∙ ap (λ v. read_answer v f) (ap (λ v. and_then v (first_met (fields_from (suc (length f)) (head_in f) f 0))) (sym e) ∙ sym (file-first f))

pub read-fault : (f : List ℕ) (x : Refusal) → first_met (head_trials f) ≡ Err x → Err x ≡ read f
read-fault f x e = ap (λ v. read_answer v f) (ap (λ v. and_then v (first_met (fields_from (suc (length f)) (head_in f) f 0))) (sym e) ∙ sym (file-first f))
