-- To be believed: a sink table as a field: its bytes, what is tried of them, what loading leaves in force, and what writing gives (document 02, N6).
use Rattle.std.specs.Prelude.{◌≡◌, List, [], ◌∷◌, ◌++◌, ℕ, ◌+◌, ◌*◌, ltb, length, get_or, Ok, Err}
use Rattle.geometry.specs.Lists.{gather}
use Rattle.refusal.specs.Refusals.{Trial, trial, first_met}
use Rattle.fields.specs.Fields.{two, opening, field}
use Rattle.reading_fields.specs.Openings.{pair_at, opens, open_trials}
use Rattle.sink.specs.Sink.{table_entries}
use Rattle.sink.specs.Rule.{breaks_rule}
use Rattle.refusal.specs.Refusals.{Verdict}

-- ---- the bytes: the one home of these numbers

-- "a field of tag 5 and length 512"; the bytes of the whole field
abbrev pub table_tag : ℕ
table_tag = 5

abbrev pub table_size : ℕ
table_size = 512

abbrev pub table_bytes : ℕ
table_bytes = opening + table_size

-- the first byte of entry number i
abbrev pub entry_place : ℕ → ℕ
entry_place i = opening + 2 * i

-- "256 whole micrometres of two bytes, high byte first": an entry of a field, and all of them
abbrev pub entry_in : List ℕ → ℕ → ℕ
entry_in f i = pair_at f (entry_place i) (entry_place i + 1)

unfoldable pub entries_in : List ℕ → List ℕ
entries_in f = gather table_entries 0 (λ i. entry_in f i ∷ [])

-- the bytes of a table's entries, and its field
unfoldable pub entry_bytes : List ℕ → List ℕ
entry_bytes table = gather table_entries 0 (λ i. two (get_or table i 0))

abbrev pub table_field : List ℕ → List ℕ
table_field table = field table_tag (entry_bytes table)

-- ---- what is tried

-- "A field cut short, of another tag or length, or followed by more bytes gets 6, 7 or 11 as in a plunge file"
abbrev pub field_trials : List ℕ → List Trial
field_trials f = open_trials f 0 (opens table_tag table_size f 0) table_size ++ (trial (ltb table_bytes (length f)) 11 table_bytes ∷ [])

-- "an entry that breaks the rule gets 15 …, its place being the first byte of the first such entry"
unfoldable pub rule_trials : List ℕ → List Trial
rule_trials table = gather table_entries 0 (λ i. trial (breaks_rule table i) 15 (entry_place i) ∷ [])

-- 15 is "tried last"
abbrev pub load_verdict : List ℕ → Verdict
load_verdict f = first_met (field_trials f ++ rule_trials (entries_in f))

-- ---- loading

-- the table in force after a load: "A refused load keeps the table in force."
abbrev pub in_force : Verdict → List ℕ → List ℕ → List ℕ
in_force (Ok _) new old = new
in_force (Err r) new old = old

pub record Loaded (f old now : List ℕ) (r : Verdict) : Type 0 where
  pub answer : r ≡ load_verdict f
  pub table : now ≡ in_force (load_verdict f) (entries_in f) old

-- ---- writing

-- what a load of the field would refuse, then "5: output buffer shorter than the answer"
abbrev pub write_verdict : List ℕ → List ℕ → Verdict
write_verdict table out = first_met (rule_trials table ++ (trial (ltb (length out) table_bytes) 5 table_bytes ∷ []))
