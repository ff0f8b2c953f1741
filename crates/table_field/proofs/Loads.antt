-- The calls' answers by the tests that were made: of a field, of a load, of a table that is written.
use Rattle.std.specs.Prelude.{Ok, Err}
use mathlib.Core.Path.{◌≡◌, refl, sym, ap, ◌∙◌}
use mathlib.Core.Bool.{true}
use mathlib.Core.List.{List, [], ◌∷◌}
use Prim.Native.Nat.{ℕ, ◌≤◌, ◌<◌}
use native.Mathlib.Omega.{arith}
use borrow.Author.Tests.{lt-ltb, le-ltb, ltb-false}
use lib.Dec.{ltb}
use lib.ListN.{length}
use Rattle.refusal.specs.declared.Refusal.{Refusal}
use Rattle.refusal.specs.Refusals.{Trial, trial, first_met, written, Answered}
use Rattle.refusal.proofs.Refusals.{answered-refused}
use Rattle.refusal.proofs.Trials.{and_then, first-append, both-accepted, cond-accepted}
use Rattle.fields.specs.Writing.{spliced}
use Rattle.fields.proofs.Splice.{splice-start}
use Rattle.reading_fields.specs.declared.Opening.{Opening}
use Rattle.reading_fields.specs.Openings.{opens, open_trials}
use Rattle.reading_fields.specs.Either.{opens_either, size_either}
use Rattle.reading_fields.proofs.Openings.{opened, once}
use Rattle.table_field.specs.Tables.{table_tag, table_size, table_bytes, entries_in, table_field, field_trials, rule_trials, load_verdict, in_force, Loaded, write_verdict}
use Rattle.refusal.specs.Refusals.{Verdict}

-- how a table's field begins
abbrev pub table_opening : Opening
table_opening = record { tag = table_tag; size = table_size }

abbrev surplus : ℕ → Verdict
surplus n = first_met (trial (ltb table_bytes n) 11 table_bytes ∷ [])

-- ---- a field

module _ (f : List ℕ) where
  abbrev opening_trials : List Trial
  opening_trials = open_trials f 0 (opens table_tag table_size f 0) table_size

  split : first_met (field_trials f) ≡ and_then (first_met opening_trials) (surplus (length f))
  split = first-append opening_trials (trial (ltb table_bytes (length f)) 11 table_bytes ∷ [])

  module _ (v : Verdict) (e : v ≡ first_met (open_trials f 0 (opens_either table_opening table_opening f 0) (size_either table_opening table_opening f 0))) where
    after : (u : Verdict) → v ≡ u → and_then u (surplus (length f)) ≡ first_met (field_trials f)
    after u g = ap (λ (w : Verdict). and_then w (surplus (length f))) (sym g ∙ e ∙ once f 0 table_opening) ∙ sym split

    pub field-refused : (r : Refusal) → v ≡ Err r → Err r ≡ first_met (field_trials f)
    field-refused r g = after (Err r) g

    pub field-surplus : v ≡ Ok tt → table_bytes < length f → Err (record { number = 11; place = table_bytes }) ≡ first_met (field_trials f)
    field-surplus g h = (rw (lt-ltb table_bytes (length f) h) refl) ∙ after (Ok tt) g

    pub field-whole : v ≡ Ok tt → length f ≤ table_bytes → (Ok tt) ≡ first_met (field_trials f)
    field-whole g h = (rw (le-ltb table_bytes (length f) h) refl) ∙ after (Ok tt) g

  -- what a field that is whole has
  pub record Whole : Type 0 where
    pub room : length f ≡ table_bytes
    pub begins : opens table_tag table_size f 0 ≡ true

  pub whole : first_met (field_trials f) ≡ Ok tt → Whole
  whole e =
      let b = both-accepted (first_met opening_trials) (surplus (length f)) (sym split ∙ e) in
      let o = opened f 0 (opens table_tag table_size f 0) table_size b.0 in
      let s = cond-accepted (ltb table_bytes (length f)) _ (Ok tt) b.1 in
      record { room = omega (arith, o.0, ltb-false table_bytes (length f) s.0); begins = o.1 }

  -- ---- a load

  module _ (old : List ℕ) where
    loaded : (v : Verdict) → load_verdict f ≡ v → Loaded f old (in_force v (entries_in f) old) v
    loaded v e = record { answer = sym e; table = ap (λ (u : Verdict). in_force u (entries_in f) old) (sym e) }

    verdict : load_verdict f ≡ and_then (first_met (field_trials f)) (first_met (rule_trials (entries_in f)))
    verdict = first-append (field_trials f) (rule_trials (entries_in f))

    pub load-fault : (r : Refusal) → first_met (field_trials f) ≡ Err r → Loaded f old old (Err r)
    load-fault r e = loaded (Err r) (verdict ∙ ap (λ (u : Verdict). and_then u (first_met (rule_trials (entries_in f)))) e)

    module _ (ok : first_met (field_trials f) ≡ Ok tt) (entries : List ℕ) (is : entries ≡ entries_in f) where
      judged : (v : Verdict) → v ≡ first_met (rule_trials entries) → load_verdict f ≡ v
      judged v e =
          verdict ∙ ap (λ (u : Verdict). and_then u (first_met (rule_trials (entries_in f)))) ok
          ∙ ap (λ (t : List ℕ). first_met (rule_trials t)) (sym is) ∙ sym e

      pub load-broken : (r : Refusal) → Err r ≡ first_met (rule_trials entries) → Loaded f old old (Err r)
      load-broken r e = loaded (Err r) (judged (Err r) e)

      pub load-done : (Ok tt) ≡ first_met (rule_trials entries) → Loaded f old entries (Ok tt)
      load-done e =
          let l = loaded (Ok tt) (judged (Ok tt) e) in
          record { answer = l.answer; table = is ∙ l.table }

-- ---- a table that is written

module _ (table out : List ℕ) where
  abbrev room_trials : List Trial
  room_trials = trial (ltb (length out) table_bytes) 5 table_bytes ∷ []

  judges : (v : Verdict) → v ≡ first_met (rule_trials table) → write_verdict table out ≡ and_then v (first_met room_trials)
  judges v e = first-append (rule_trials table) room_trials ∙ ap (λ (u : Verdict). and_then u (first_met room_trials)) (sym e)

  pub write-broken : (r : Refusal) → Err r ≡ first_met (rule_trials table)
      → Answered (write_verdict table out) (table_field table) out out (Err r)
  write-broken r e = answered-refused (write_verdict table out) r (table_field table) out (judges (Err r) e)

  module _ (ok : (Ok tt) ≡ first_met (rule_trials table)) where
    pub write-short : length out < table_bytes
        → Answered (write_verdict table out) (table_field table) out out (Err (record { number = 5; place = table_bytes }))
    write-short h = answered-refused (write_verdict table out) _ (table_field table) out (judges (Ok tt) ok ∙ rw (lt-ltb (length out) table_bytes h) refl)

    pub write_done : (now : List ℕ) → table_bytes ≤ length out → now ≡ spliced out 0 (table_field table)
        → Answered (write_verdict table out) (table_field table) out now (Ok tt)
    write_done now h e =
        let v : write_verdict table out ≡ (Ok tt) = judges (Ok tt) ok ∙ rw (le-ltb (length out) table_bytes h) refl in
        record {
          answer = sym v;
          bytes = e ∙ splice-start out (table_field table) ∙ ap (λ (u : Verdict). written u (table_field table) out) (sym v);
        }
