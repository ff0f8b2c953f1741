-- Laws of one field: what the tests of its opening and its content come to, and what a field that is right has.
use Rattle.std.specs.Prelude.{Some, None, Ok, Err, Option}
use mathlib.Core.Path.{◌≡◌, refl, sym, ap, ◌∙◌, subst}
use mathlib.Core.Bool.{Bool, true, false, cond, not}
use mathlib.Core.List.{List, [], ◌∷◌}
use Prim.Native.Nat.{ℕ, ◌+◌, ◌*◌, ◌≤◌, ◌<◌}
use native.Mathlib.Omega.{arith}
use native.Mathlib.Nat.{le_refl}
use borrow.Author.Tests.{ltb-false, le-ltb, leb-true, leb-false, eq-eqb, ne_eqb, eqb-true, eqb-false, not-false}
use lib.Dec.{leb, ltb, eqb}
use lib.ListN.{length, get_or}
use Rattle.geometry.specs.declared.Head.{Head}
use Rattle.geometry.specs.declared.Plunge.{Plunge}
use Rattle.geometry.specs.declared.Reach.{Reach}
use Rattle.geometry.specs.declared.Size.{Size}
use Rattle.geometry.specs.declared.Size.TheVariants.{Small, Large}
use Rattle.geometry.specs.Sizes.{size_of}
use Rattle.geometry.specs.Forms.{largest_reach, reach_of}
use Rattle.geometry.specs.Plunges.{fits_plate}
use Rattle.refusal.specs.declared.Refusal.{Refusal}
use Rattle.refusal.specs.Refusals.{Trial, trial, first_met, largest_side, bad_kind, bad_sides, map_trials}
use Rattle.refusal.proofs.Refusals.{map-sound}
use Rattle.refusal.proofs.Trials.{and_then, first-append, both-accepted, cond-accepted}
use Rattle.reading.specs.declared.Step.TheVariants.{Onward, Ended, Fault}
use Rattle.reading_fields.specs.declared.Opening.{Opening}
use Rattle.reading_fields.specs.Openings.{opens, number_at, open_trials, end_trials}
use Rattle.reading.specs.Reading.{is_end, plunge_at, plate_trials, head_trials, plunge_trials, field_trials, head_as, head_in}
use Rattle.reading_fields.specs.Either.{head_opening, plunge_opening, end_opening, begins, opens_either, size_either}
use Rattle.reading.specs.Steps.{step_of, right_step, content_step, step_at, plunge_of, plunge_if, Contained}
use Rattle.fields.specs.Fields.{opening, head_tag, head_size, head_bytes, plunge_tag, plunge_size, plunge_bytes, end_tag, end_size, end_bytes, place}
use Rattle.refusal.specs.Sides.{Sides}
use Rattle.reading_fields.proofs.Openings.{refused, opened, opens-bytes, once}
use Rattle.refusal.specs.Refusals.{Verdict}

-- ---- the head

pub plate-map : (k w h : ℕ) → first_met (map_trials k w h false (h * w ∷ [])) ≡ first_met (plate_trials k w h)
plate-map k w h = rw (le-ltb (h * w) (h * w) (le_refl (h * w)))

-- the head's opening, tried with one opening twice, and then its content
abbrev head_open : List ℕ → List Trial
head_open f = open_trials f 0 (opens (head_tag Small) (head_size Small) f 0) (head_size Small)

abbrev head_plate : List ℕ → List Trial
head_plate f = plate_trials (get_or f 3 0) (get_or f 4 0) (get_or f 5 0)

module _ (f : List ℕ) (h : Opening) (is : h ≡ head_opening Small) (v : Verdict)
    (e : v ≡ first_met (open_trials f 0 (opens_either h h f 0) (size_either h h f 0))) where
  head-open : v ≡ first_met (head_open f)
  head-open = e ∙ ap (λ (o : Opening). first_met (open_trials f 0 (opens_either o o f 0) (size_either o o f 0))) is ∙ once f 0 (head_opening Small)

  pub head-room : v ≡ Ok tt → head_bytes Small ≤ length f
  head-room g = let t = opened f 0 (opens (head_tag Small) (head_size Small) f 0) (head_size Small) (sym head-open ∙ g) in omega (arith, t.0)

  pub head-plate : v ≡ Ok tt → first_met (head_plate f) ≡ first_met (head_trials f)
  head-plate g = ap (λ u. and_then u (first_met (head_plate f))) (sym g ∙ head-open) ∙ sym (first-append (head_open f) (head_plate f))

  pub head-fault : (r : Refusal) → v ≡ Err r → Err r ≡ first_met (head_trials f)
  head-fault r g = ap (λ u. and_then u (first_met (head_plate f))) (sym g ∙ head-open) ∙ sym (first-append (head_open f) (head_plate f))

-- what a right head has
pub record Plated (f : List ℕ) : Type 0 where
  pub room : head_bytes Small ≤ length f
  pub tagged : opens (head_tag Small) (head_size Small) f 0 ≡ true
  pub head : head_in f ≡ head_as Small f
  pub named : bad_kind (get_or f 3 0) ≡ false
  pub sides : Sides (head_in f)

-- the tag of a small plate's head
small-tag : (f : List ℕ) → opens (head_tag Small) (head_size Small) f 0 ≡ true → head_in f ≡ head_as Small f
small-tag f e = let t = opens-bytes (head_tag Small) (head_size Small) f 0 e in ap (λ (n : ℕ). head_as (cond (eqb n (head_tag Large)) Large Small) f) t.0

pub head-right : (f : List ℕ) → first_met (head_trials f) ≡ Ok tt → Plated f
head-right f e =
    let t = both-accepted (first_met (head_open f)) (first_met (head_plate f)) (sym (first-append (head_open f) (head_plate f)) ∙ e) in
    let o = opened f 0 (opens (head_tag Small) (head_size Small) f 0) (head_size Small) t.0 in
    let k = cond-accepted (bad_kind (get_or f 3 0)) (record { number = 1; place = 0 }) (first_met (trial (bad_sides (get_or f 4 0) (get_or f 5 0)) 2 0 ∷ [])) t.1 in
    let s = map-sound (get_or f 3 0) (get_or f 4 0) (get_or f 5 0) false (get_or f 5 0 * get_or f 4 0) (plate-map (get_or f 3 0) (get_or f 4 0) (get_or f 5 0) ∙ t.1) in
    let small = small-tag f o.1 in
    record {
      room = omega (arith, o.0);
      tagged = o.1;
      head = small;
      named = k.0;
      sides = subst Sides (sym small) (record { wide = s.wide; narrow = s.narrow; tall = s.tall; low = s.low });
    }

-- ---- the numbers of a plunge

module _ (s : Size) (f : List ℕ) (at : ℕ) where
  -- the plunge that was read is the field's; a reach that is none lies above the largest
  pub read_is : (q : Plunge) → plunge_if s f at ≡ Some q → q ≡ plunge_at s f at
  read_is q = go (leb (plunge_at s f at).reach.0 largest_reach)
    where
      go : (b : Bool) → cond b (Some (plunge_at s f at)) None ≡ Some q → q ≡ plunge_at s f at
      go true e = cc
      go false e = let z : ◌≡◌ {A = ℕ} 0 1 = cc in absurd (omega arith)

  pub none_above : plunge_if s f at ≡ None → largest_reach < (plunge_at s f at).reach.0
  none_above = go (leb (plunge_at s f at).reach.0 largest_reach) refl
    where
      go : (b : Bool) → leb (plunge_at s f at).reach.0 largest_reach ≡ b → cond b (Some (plunge_at s f at)) None ≡ None
          → largest_reach < (plunge_at s f at).reach.0
      go true g e = let z : ◌≡◌ {A = ℕ} 0 1 = cc in absurd (omega arith)
      go false g e = leb-false _ _ g

-- a ball of a reach above the largest leaves every plate
pub wide-ball : (p : Head) (q : Plunge) → p.width ≤ largest_side → largest_reach < q.reach.0 → fits_plate p q ≡ false
wide-ball p q w l = go (leb q.reach.0 q.column) (leb q.reach.0 q.row) refl
  where
    go : (a b : Bool) → leb q.reach.0 q.column ≡ a
        → cond a (cond b (cond (ltb (q.column + q.reach.0) p.width) (ltb (q.row + q.reach.0) p.height) false) false) false ≡ false
    go true true e =
        let k = leb-true q.reach.0 q.column e in
        let g : p.width ≤ q.column + q.reach.0 = omega arith in
        rw (le-ltb _ _ g)
    go true false e = refl
    go false b e = refl

module _ (p : Head) (f : List ℕ) (at : ℕ) where
  abbrev here : Plunge
  here = plunge_at (size_of p) f at

  -- the plunge that was read is the field's, so its tests are the field's
  pub read_here : (m : Option Plunge) (q : Plunge) (s : Size) → m ≡ plunge_if s f at → s ≡ size_of p → m ≡ Some q → q ≡ plunge_at (size_of p) f at
  read_here m q s e k g = read_is (size_of p) f at q (ap (λ (t : Size). plunge_if t f at) (sym k) ∙ sym e ∙ g)

  pub read_fits : (q : Plunge) (b v : Bool) → q ≡ here → b ≡ fits_plate p q → b ≡ v → fits_plate p here ≡ v
  read_fits q b v is t k = ap (fits_plate p) (sym is) ∙ sym t ∙ k

  pub read-depth : (q : Plunge) → q ≡ here → here.depth ≡ q.depth
  read-depth q is = ap (λ (o : Plunge). o.depth) (sym is)

  pub plunge-8 : fits_plate p here ≡ false → refused 8 at ≡ first_met (plunge_trials p f at)
  plunge-8 e = ap (λ b. cond (not b) (refused 8 at) (cond (eqb here.depth 0) (refused 9 at) (Ok tt))) (sym e)

  pub plunge-9 : fits_plate p here ≡ true → here.depth ≡ 0 → refused 9 at ≡ first_met (plunge_trials p f at)
  plunge-9 e g =
      ap (λ b. cond b (refused 9 at) (Ok tt)) (sym (eq-eqb _ _ g))
      ∙ ap (λ b. cond (not b) (refused 8 at) (cond (eqb here.depth 0) (refused 9 at) (Ok tt))) (sym e)

  pub plunge-right : fits_plate p here ≡ true → (here.depth ≡ 0 → ⊥) → (Ok tt) ≡ first_met (plunge_trials p f at)
  plunge-right e g =
      ap (λ b. cond b (refused 9 at) (Ok tt)) (sym (ne_eqb _ _ g))
      ∙ ap (λ b. cond (not b) (refused 8 at) (cond (eqb here.depth 0) (refused 9 at) (Ok tt))) (sym e)

-- ---- a field

module _ (p : Head) (f : List ℕ) (at n : ℕ) (v : Verdict) where
  pub content-end : is_end f at ≡ true → v ≡ first_met (end_trials f at n) → step_of Ended v ≡ content_step p f at n
  content-end e g = rw (e, g)

  pub content-plunge : is_end f at ≡ false → v ≡ first_met (plunge_trials p f at) → step_of Onward v ≡ content_step p f at n
  content-plunge e g = rw (e, g)

tags-unlike : (s : Size) → end_tag ≡ plunge_tag s → ⊥
tags-unlike Small e = omega arith
tags-unlike Large e = omega arith

-- no field begins as a plunge's and as the end, so it is the same which is tried first
either_way : (s : Size) (f : List ℕ) (at : ℕ)
    → first_met (open_trials f at (opens_either (plunge_opening s) end_opening f at) (size_either (plunge_opening s) end_opening f at))
    ≡ first_met (open_trials f at (opens_either end_opening (plunge_opening s) f at) (size_either end_opening (plunge_opening s) f at))
either_way s f at = go (begins end_opening f at) (begins (plunge_opening s) f at) refl refl
  where
    go : (x y : Bool) → begins end_opening f at ≡ x → begins (plunge_opening s) f at ≡ y
        → first_met (open_trials f at (cond y true x) (cond y (plunge_size s) end_size)) ≡ first_met (open_trials f at (cond x true y) (cond x end_size (plunge_size s)))
    go true true e g = absurd (tags-unlike s (sym (opens-bytes end_tag end_size f at e).0 ∙ (opens-bytes (plunge_tag s) (plunge_size s) f at g).0))
    go true false e g = refl
    go false true e g = refl
    go false false e g = refl

module _ (p : Head) (f : List ℕ) (n : ℕ) where
  abbrev allowed : Bool
  allowed = opens_either end_opening (plunge_opening (size_of p)) f (place p n)

  abbrev content : ℕ
  content = size_either end_opening (plunge_opening (size_of p)) f (place p n)

  abbrev pub field_open : List Trial
  field_open = open_trials f (place p n) allowed content

  abbrev pub field_content : List Trial
  field_content = cond (is_end f (place p n)) (end_trials f (place p n) n) (plunge_trials p f (place p n))

  -- the opening that was tried is the field's
  pub field-opened : (at : ℕ) (a b : Opening) (s : Size) (v : Verdict) → at ≡ place p n → a ≡ plunge_opening s → b ≡ end_opening → s ≡ size_of p
      → v ≡ first_met (open_trials f at (opens_either a b f at) (size_either a b f at)) → v ≡ first_met field_open
  field-opened at a b s v x y z w e =
      e ∙ (λ i. first_met (open_trials f (x i) (opens_either (y i) (z i) f (x i)) (size_either (y i) (z i) f (x i))))
      ∙ ap (λ (t : Size). first_met (open_trials f (place p n) (opens_either (plunge_opening t) end_opening f (place p n))
      (size_either (plunge_opening t) end_opening f (place p n)))) w
      ∙ either_way (size_of p) f (place p n)

  -- by the verdict on the opening
  module _ (v : Verdict) (o : v ≡ first_met field_open) where
    pub field-content : v ≡ Ok tt → content_step p f (place p n) n ≡ step_at p f n
    field-content e = ap (step_of (right_step f (place p n)))
        (ap (λ u. and_then u (first_met field_content)) (sym e ∙ o) ∙ sym (first-append field_open field_content))

    pub field-fault : (r : Refusal) → v ≡ Err r → Fault r ≡ step_at p f n
    field-fault r e = ap (step_of (right_step f (place p n)))
        (ap (λ u. and_then u (first_met field_content)) (sym e ∙ o) ∙ sym (first-append field_open field_content))

    pub field_room : v ≡ Ok tt → Contained p f (place p n)
    field_room e = (opened f (place p n) allowed content (sym o ∙ e)).0

  -- a field that refuses nothing has its content, an allowed tag, and a content that refuses nothing
  pub field-right : first_met (field_trials p f n) ≡ Ok tt
      → Contained p f (place p n) × (allowed ≡ true) × (first_met field_content ≡ Ok tt)
  field-right e =
      let t = both-accepted (first_met field_open) (first_met field_content) (sym (first-append field_open field_content) ∙ e) in
      (field_room (first_met field_open) refl t.0, (opened f (place p n) allowed content t.0).1, t.1)

-- a test for the end field
pub end-told : (f : List ℕ) (at : ℕ) (o : Opening) (b v : Bool) → o ≡ end_opening → b ≡ begins o f at → b ≡ v → is_end f at ≡ v
end-told f at o b v e g t = ap (λ (k : Opening). begins k f at) (sym e) ∙ sym g ∙ t

-- the content of a plunge's field, and of the end field, where it stands
module _ (p : Head) (f : List ℕ) (at : ℕ) (h : Contained p f at) where
  pub contained-plunge : is_end f at ≡ false → at + plunge_bytes (size_of p) ≤ length f
  contained-plunge e = rw e at h

  pub contained-end : is_end f at ≡ true → at + end_bytes ≤ length f
  contained-end e = rw e at h

  pub contained-opening : at + opening ≤ length f
  contained-opening = omega (arith, h)

-- ---- contents that refuse nothing

pub right-plunge : (p : Head) (f : List ℕ) (at : ℕ) → first_met (plunge_trials p f at) ≡ Ok tt → (fits_plate p (plunge_at (size_of p) f at) ≡ true)
    × (1 ≤ (plunge_at (size_of p) f at).depth)
right-plunge p f at e =
    let q = plunge_at (size_of p) f at in
    let a = cond-accepted (not (fits_plate p q)) (record { number = 8; place = at }) (first_met (trial (eqb q.depth 0) 9 at ∷ [])) e in
    let b = cond-accepted (eqb q.depth 0) (record { number = 9; place = at }) (Ok tt) a.1 in
    let d = eqb-false q.depth 0 b.0 in
    (not-false _ a.0, omega arith)

pub right_end : (f : List ℕ) (at n : ℕ) → first_met (end_trials f at n) ≡ Ok tt → (number_at f at ≡ n) × (length f ≤ at + end_bytes)
right_end f at n e =
    let a = cond-accepted (not (eqb (number_at f at) n)) (record { number = 10; place = at })
    (first_met (trial (ltb (at + end_bytes) (length f)) 11 (at + end_bytes) ∷ [])) e in
    let b = cond-accepted (ltb (at + end_bytes) (length f)) (record { number = 11; place = at + end_bytes }) (Ok tt) a.1 in
    (eqb-true _ _ (not-false _ a.0), ltb-false _ _ b.0)
