-- Laws of a field's opening and of the end field: what the tests that were made come to.
use Rattle.std.specs.Prelude.{Ok, Err}
use mathlib.Core.Path.{◌≡◌, refl, sym, ap, ◌∙◌}
use mathlib.Core.Bool.{Bool, true, false, cond, not}
use mathlib.Core.List.{List, [], ◌∷◌}
use Prim.Native.Nat.{ℕ, ◌+◌, ◌-◌, ◌≤◌, ◌<◌}
use native.Mathlib.Omega.{arith}
use native.Mathlib.Decide.{dec_le}
use borrow.Author.Tests.{ltb-false, eqb-true, not-false, lt-ltb, le-ltb, eq-eqb, ne_eqb}
use lib.Dec.{ltb, eqb}
use lib.ListN.{length, get_or}
use Rattle.refusal.specs.declared.Refusal.{Refusal}
use Rattle.refusal.specs.Refusals.{trial, first_met}
use Rattle.refusal.proofs.Trials.{cond-accepted}
use Rattle.fields.specs.Fields.{opening, end_bytes}
use Rattle.reading_fields.specs.declared.Opening.{Opening}
use Rattle.reading_fields.specs.Openings.{length_at, opens, number_at, open_trials, end_trials}
use Rattle.reading_fields.specs.Either.{begins, opens_either, size_either}
use Rattle.refusal.specs.Refusals.{Verdict}

abbrev pub refused : ℕ → ℕ → Verdict
refused n at = Err (record { number = n; place = at })

-- ---- the opening of a field

module _ (f : List ℕ) (at : ℕ) (allowed : Bool) (size : ℕ) (h : at ≤ length f) where
  pub open-short : length f - at < opening → refused 6 at ≡ first_met (open_trials f at allowed size)
  open-short l = let g : length f < at + opening = omega arith in rw (lt-ltb _ _ g)

  -- what is tried where three bytes are there and the opening is allowed: the content
  pub open-content : opening ≤ length f - at → allowed ≡ true
      → first_met (trial (ltb (length f - at) (opening + size)) 6 at ∷ []) ≡ first_met (open_trials f at allowed size)
  open-content l e = let g : at + opening ≤ length f = omega arith in rw (le-ltb _ _ g, e) (ap (λ b. cond b (refused 6 at) (Ok tt)) same)
    where
      same : ltb (length f - at) (opening + size) ≡ ltb (length f) (at + (opening + size))
      same = go (dec_le (opening + size) (length f - at))
        where
          go : Dec (opening + size ≤ length f - at) → ltb (length f - at) (opening + size) ≡ ltb (length f) (at + (opening + size))
          go (yes k) = let m : at + (opening + size) ≤ length f = omega arith in le-ltb _ _ k ∙ sym (le-ltb _ _ m)
          go (no k) =
              let n : length f - at < opening + size = omega arith in
              let m : length f < at + (opening + size) = omega arith in
              lt-ltb _ _ n ∙ sym (lt-ltb _ _ m)

  pub open-wrong : opening ≤ length f - at → allowed ≡ false → refused 7 at ≡ first_met (open_trials f at allowed size)
  open-wrong l e = let g : at + opening ≤ length f = omega arith in rw (le-ltb _ _ g, e)

  pub open-whole : opening ≤ length f - at → allowed ≡ true → opening + size ≤ length f - at → (Ok tt) ≡ first_met (open_trials f at allowed size)
  open-whole l e k = ap (λ b. cond b (refused 6 at) (Ok tt)) (sym (le-ltb _ _ k)) ∙ open-content l e

-- by which of two it begins
module _ (f : List ℕ) (at : ℕ) (a b : Opening) (h : at ≤ length f) (l : opening ≤ length f - at) where
  pub first-opens : begins a f at ≡ true → first_met (trial (ltb (length f - at) (opening + a.size)) 6 at ∷ [])
      ≡ first_met (open_trials f at (opens_either a b f at) (size_either a b f at))
  first-opens e = rw e (open-content f at true a.size h l refl)

  pub second-opens : begins a f at ≡ false → begins b f at ≡ true → first_met (trial (ltb (length f - at) (opening + b.size)) 6 at ∷ [])
      ≡ first_met (open_trials f at (opens_either a b f at) (size_either a b f at))
  second-opens e g = rw (e, g) (open-content f at true b.size h l refl)

  pub none-opens : begins a f at ≡ false → begins b f at ≡ false → refused 7 at ≡ first_met (open_trials f at (opens_either a b f at) (size_either a b f at))
  none-opens e g = rw (e, g) (open-wrong f at false b.size h l refl)

-- ---- what a field that opens has

-- a field that opens has its content, and its tag and length are allowed
pub opened : (f : List ℕ) (at : ℕ) (allowed : Bool) (size : ℕ) → first_met (open_trials f at allowed size) ≡ Ok tt → (at + (opening + size) ≤ length f)
    × (allowed ≡ true)
opened f at allowed size e =
    let six : Refusal = record { number = 6; place = at } in
    let a = cond-accepted (ltb (length f) (at + opening)) six (first_met (trial (not allowed) 7 at ∷ trial (ltb (length f) (at + (opening + size))) 6 at ∷ [])) e in
    let b = cond-accepted (not allowed) (record { number = 7; place = at }) (first_met (trial (ltb (length f) (at + (opening + size))) 6 at ∷ [])) a.1 in
    let c = cond-accepted (ltb (length f) (at + (opening + size))) six (Ok tt) b.1 in
    (ltb-false _ _ c.0, not-false allowed b.0)

-- a field that opens: its tag and its length
pub opens-bytes : (tag size : ℕ) (f : List ℕ) (at : ℕ) → opens tag size f at ≡ true → (get_or f at 0 ≡ tag) × (length_at f at ≡ size)
opens-bytes tag size f at = go (eqb (get_or f at 0) tag) refl
  where
    go : (b : Bool) → eqb (get_or f at 0) tag ≡ b → cond b (eqb (length_at f at) size) false ≡ true → (get_or f at 0 ≡ tag) × (length_at f at ≡ size)
    go true e g = (eqb-true _ _ e, eqb-true _ _ g)
    go false e g = let z : ◌≡◌ {A = ℕ} 0 1 = cc in absurd (omega arith)

-- one opening that is tried twice
pub once : (f : List ℕ) (at : ℕ) (o : Opening)
    → first_met (open_trials f at (opens_either o o f at) (size_either o o f at)) ≡ first_met (open_trials f at (begins o f at) o.size)
once f at o = go (begins o f at)
  where
    go : (b : Bool) → first_met (open_trials f at (cond b true b) (cond b o.size o.size)) ≡ first_met (open_trials f at b o.size)
    go true = refl
    go false = refl

-- ---- the end field

module _ (f : List ℕ) (at n : ℕ) where
  pub end-10 : (number_at f at ≡ n → ⊥) → refused 10 at ≡ first_met (end_trials f at n)
  end-10 e = ap (λ b. cond (not b) (refused 10 at) (cond (ltb (at + end_bytes) (length f)) (refused 11 (at + end_bytes)) (Ok tt))) (sym (ne_eqb _ _ e))

  pub end-11 : number_at f at ≡ n → at + end_bytes < length f → refused 11 (at + end_bytes) ≡ first_met (end_trials f at n)
  end-11 e l =
      ap (λ b. cond b (refused 11 (at + end_bytes)) (Ok tt)) (sym (lt-ltb _ _ l))
      ∙ ap (λ b. cond (not b) (refused 10 at) (cond (ltb (at + end_bytes) (length f)) (refused 11 (at + end_bytes)) (Ok tt))) (sym (eq-eqb _ _ e))

  pub end-right : number_at f at ≡ n → length f ≤ at + end_bytes → (Ok tt) ≡ first_met (end_trials f at n)
  end-right e l =
      ap (λ b. cond b (refused 11 (at + end_bytes)) (Ok tt)) (sym (le-ltb _ _ l))
      ∙ ap (λ b. cond (not b) (refused 10 at) (cond (ltb (at + end_bytes) (length f)) (refused 11 (at + end_bytes)) (Ok tt))) (sym (eq-eqb _ _ e))
