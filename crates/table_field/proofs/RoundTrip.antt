-- What is written is loaded again, a field that is loaded is the one that is written, and the table in force keeps the rule whatever is loaded.
use Rattle.std.specs.Prelude.{Ok, Err}
use mathlib.Core.Path.{◌≡◌, refl, sym, ap, ap₂, ◌∙◌, subst}
use mathlib.Core.List.{List, [], ◌∷◌, ◌++◌}
use Prim.Native.Nat.{ℕ, zero, suc, ◌+◌, ◌-◌, ◌*◌, ◌/◌, ◌%◌, ◌≤◌, ◌<◌}
use native.Mathlib.Nat.{add-zero, zero-add, div-add-mod'}
use native.Mathlib.Omega.{arith}
use native.Mathlib.Decide.{dec_le}
use lib.ListN.{length, get_or, drop, take}
use lib.Seq.{get_or-drop, ext_get_or, take-append_seam}
use Rattle.geometry.specs.Lists.{gather}
use Rattle.theory.proofs.Lists.{gather-same, length-each, get_or-each}
use Rattle.refusal.specs.Refusals.{first_met, written, Answered}
use Rattle.refusal.proofs.Trials.{and_then, first-append, both-accepted}
use Rattle.fields.specs.Fields.{opening}
use Rattle.reading_fields.proofs.Openings.{opens-bytes}
use Rattle.sink.specs.Sink.{table_entries}
use Rattle.sink.specs.Rule.{Rule}
use Rattle.table_field.specs.Tables.{table_tag, table_size, table_bytes, entry_place, entry_in, entries_in, entry_bytes, table_field, field_trials, rule_trials, load_verdict, in_force, Loaded, write_verdict}
use Rattle.table_field.proofs.Rules.{accepted-rule, rule-accepted}
use Rattle.table_field.proofs.Writes.{pair, bytes-length, field-length}
use Rattle.table_field.proofs.Loads.{whole, Whole}
use Rattle.refusal.specs.Refusals.{Verdict}

-- ---- the bytes of entries

-- the two bytes of the entry that stands j behind the first of n
pairs-at : (table : List ℕ) (n i j : ℕ) → j < n
    → (get_or (gather n i (pair table)) (2 * j) 0 ≡ get_or table (i + j) 0 / 256) × (get_or (gather n i (pair table)) (2 * j + 1) 0 ≡ get_or table (i + j) 0 % 256)
pairs-at table zero i j h = absurd (omega arith)
pairs-at table (suc n) i zero h = rw (add-zero i) (refl, refl)
pairs-at table (suc n) i (suc j) h =
    let e : 2 * suc j ≡ suc (suc (2 * j)) = omega arith in
    let g : 2 * suc j + 1 ≡ suc (suc (2 * j + 1)) = omega arith in
    let k : i + suc j ≡ suc i + j = omega arith in
    rw (g, e, k) (pairs-at table n (suc i) j (omega arith))

-- the bytes behind an opening
module _ (table : List ℕ) where
  behind : (k : ℕ) → get_or (table_field table) (opening + k) 0 ≡ get_or (entry_bytes table) k 0
  behind k = sym (get_or-drop opening (table_field table) k 0)

  pub bytes-at : (j : ℕ) → j < table_entries
      → (get_or (table_field table) (entry_place j) 0 ≡ get_or table j 0 / 256) × (get_or (table_field table) (entry_place j + 1) 0 ≡ get_or table j 0 % 256)
  unfolding entry_bytes
  bytes-at j h =
      let p = pairs-at table table_entries 0 j h in
      let e : entry_place j + 1 ≡ opening + (2 * j + 1) = omega arith in
      let z : 0 + j ≡ j = zero-add j in (
        behind (2 * j) ∙ p.0 ∙ ap (λ (n : ℕ). get_or table n 0 / 256) z,
        ap (λ (n : ℕ). get_or (table_field table) n 0) e ∙ behind (2 * j + 1) ∙ p.1 ∙ ap (λ (n : ℕ). get_or table n 0 % 256) z,
      )

  pub entry-back : (j : ℕ) → j < table_entries → entry_in (table_field table) j ≡ get_or table j 0
  entry-back j h = let b = bytes-at j h in ap₂ (λ (x y : ℕ). 256 * x + y) b.0 b.1 ∙ omega (arith, div-add-mod' (get_or table j 0) 256)

-- all entries, one by one
all-entries : (table : List ℕ) (n : ℕ) → length table ≡ n → gather n 0 (λ i. get_or table i 0 ∷ []) ≡ table
all-entries table n e =
    ext_get_or 0 (gather n 0 (λ i. get_or table i 0 ∷ [])) table (length-each (λ i. get_or table i 0) n 0 ∙ sym e)
    (λ i h. get_or-each (λ i. get_or table i 0) 0 n 0 i (omega (arith, h, length-each (λ i. get_or table i 0) n 0)) ∙ ap (λ (k : ℕ). get_or table k 0) (zero-add i))

pub entries-back : (table : List ℕ) → length table ≡ table_entries → entries_in (table_field table) ≡ table
unfolding entries_in
entries-back table e =
    gather-same table_entries 0 (λ i. entry_in (table_field table) i ∷ []) (λ i. get_or table i 0 ∷ [])
    (λ j a h. ap (λ (x : ℕ). x ∷ []) (entry-back table j (omega arith)))
    ∙ all-entries table table_entries e

-- ---- what is written is loaded again

module _ (table : List ℕ) where
  field-accepted : first_met (field_trials (table_field table)) ≡ Ok tt
  field-accepted = rw (field-length table, bytes-length table) refl

  pub loads-again : length table ≡ table_entries → Rule table → load_verdict (table_field table) ≡ Ok tt
  loads-again e r =
      first-append (field_trials (table_field table)) (rule_trials (entries_in (table_field table)))
      ∙ ap (λ (u : Verdict). and_then u (first_met (rule_trials (entries_in (table_field table))))) field-accepted
      ∙ ap (λ (t : List ℕ). first_met (rule_trials t)) (entries-back table e)
      ∙ rule-accepted table r

-- a table that was written, read back from where it was written
pub round_trip : (table out now old back : List ℕ) (r : Verdict) → length table ≡ table_entries
    → Answered (write_verdict table out) (table_field table) out now (Ok tt) → Loaded (take table_bytes now) old back r → (r ≡ Ok tt) × (back ≡ table)
round_trip table out now old back r e w l =
    let v : write_verdict table out ≡ (Ok tt) = sym w.answer in
    let t : Rule table = accepted-rule table (both-accepted (first_met (rule_trials table)) _ (sym (first-append (rule_trials table) _) ∙ v)).0 in
    let f : take table_bytes now ≡ table_field table =
    ap (take table_bytes) (w.bytes ∙ ap (λ (u : Verdict). written u (table_field table) out) v)
    ∙ ap (λ (n : ℕ). take n (table_field table ++ drop (length (table_field table)) out)) (sym (field-length table))
    ∙ take-append_seam (table_field table) (drop (length (table_field table)) out) in
    let a : load_verdict (take table_bytes now) ≡ (Ok tt) = ap load_verdict f ∙ loads-again table e t in (
      l.answer ∙ a,
      l.table ∙ ap (λ (u : Verdict). in_force u (entries_in (take table_bytes now)) old) a ∙ ap entries_in f ∙ entries-back table e,
    )

-- ---- a field that is loaded is the field of its table: no two fields load the same

module _ (f : List ℕ) (bytes : (i : ℕ) → get_or f i 0 < 256) (ok : load_verdict f ≡ Ok tt) where
  is_whole : Whole f
  is_whole = whole f (both-accepted (first_met (field_trials f)) _ (sym (first-append (field_trials f) (rule_trials (entries_in f))) ∙ ok)).0

  entry-is : (j : ℕ) → j < table_entries → get_or (entries_in f) j 0 ≡ entry_in f j
  unfolding entries_in
  entry-is j h = get_or-each (entry_in f) 0 table_entries 0 j h ∙ ap (entry_in f) (zero-add j)

  -- the bytes of an entry
  byte_high : (j : ℕ) → j < table_entries → get_or (table_field (entries_in f)) (entry_place j) 0 ≡ get_or f (entry_place j) 0
  byte_high j h = (bytes-at (entries_in f) j h).0 ∙ ap (λ (n : ℕ). n / 256) (entry-is j h) ∙ omega (arith, bytes (entry_place j), bytes (entry_place j + 1))

  byte_low : (j : ℕ) → j < table_entries → get_or (table_field (entries_in f)) (entry_place j + 1) 0 ≡ get_or f (entry_place j + 1) 0
  byte_low j h = (bytes-at (entries_in f) j h).1 ∙ ap (λ (n : ℕ). n % 256) (entry-is j h) ∙ omega (arith, bytes (entry_place j), bytes (entry_place j + 1))

  byte-same : (k : ℕ) → k < table_bytes → get_or (table_field (entries_in f)) k 0 ≡ get_or f k 0
  byte-same k h = go (dec_le opening k)
    where
      o : (get_or f 0 0 ≡ table_tag) × (256 * get_or f 1 0 + get_or f 2 0 ≡ table_size)
      o = opens-bytes table_tag table_size f 0 is_whole.begins

      first : (n : ℕ) → n ≡ k → n < opening → get_or (table_field (entries_in f)) n 0 ≡ get_or f n 0
      first zero e l = sym o.0
      first (suc zero) e l = ap (λ (m : ℕ). m / 256) (bytes-length (entries_in f)) ∙ omega (arith, o.1, bytes 1, bytes 2)
      first (suc (suc zero)) e l = ap (λ (m : ℕ). m % 256) (bytes-length (entries_in f)) ∙ omega (arith, o.1, bytes 1, bytes 2)
      first (suc (suc (suc n))) e l = absurd (omega arith)

      later : opening ≤ k → (r : ℕ) → (k + 1) % 2 ≡ r → get_or (table_field (entries_in f)) k 0 ≡ get_or f k 0
      later l zero e =
          let p : k ≡ entry_place ((k - opening) / 2) = omega arith in
          subst (λ (n : ℕ). get_or (table_field (entries_in f)) n 0 ≡ get_or f n 0) (sym p) (byte_high ((k - opening) / 2) (omega arith))
      later l (suc r) e =
          let p : k ≡ entry_place ((k - opening) / 2) + 1 = omega arith in
          subst (λ (n : ℕ). get_or (table_field (entries_in f)) n 0 ≡ get_or f n 0) (sym p) (byte_low ((k - opening) / 2) (omega arith))

      go : Dec (opening ≤ k) → get_or (table_field (entries_in f)) k 0 ≡ get_or f k 0
      go (yes l) = later l ((k + 1) % 2) refl
      go (no l) = first k refl (omega arith)

  pub one_field : table_field (entries_in f) ≡ f
  one_field =
      ext_get_or 0 (table_field (entries_in f)) f (field-length (entries_in f) ∙ sym is_whole.room)
      (λ i h. byte-same i (omega (arith, h, field-length (entries_in f))))

-- ---- the table in force keeps the rule

pub in-force-rule : (f old now : List ℕ) (r : Verdict) → Rule old → Loaded f old now r → Rule now
in-force-rule f old now r rule l = subst Rule (sym l.table) (go (load_verdict f) refl)
  where
    go : (v : Verdict) → load_verdict f ≡ v → Rule (in_force v (entries_in f) old)
    go (Ok _) e = accepted-rule (entries_in f)
        (both-accepted (first_met (field_trials f)) (first_met (rule_trials (entries_in f))) (sym (first-append (field_trials f) (rule_trials (entries_in f))) ∙ e)).1
    go (Err q) e = rule
