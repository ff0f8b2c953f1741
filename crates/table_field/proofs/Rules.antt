-- The trials of a table's rule, entry by entry: what is left of them at an entry, and what it says that none is met.
use Rattle.std.specs.Prelude.{Ok, Err}
use mathlib.Core.Path.{◌≡◌, refl, sym, ap, ◌∙◌}
use mathlib.Core.Bool.{Bool, true, false, cond}
use mathlib.Core.List.{List, [], ◌∷◌}
use Prim.Native.Nat.{ℕ, zero, suc, ◌+◌, ◌-◌, ◌≤◌, ◌<◌}
use native.Mathlib.Numerals.{add-one}
use native.Mathlib.Omega.{arith}
use native.Mathlib.Decide.{dec_le}
use Rattle.geometry.specs.Lists.{gather}
use Rattle.refusal.specs.Refusals.{Trial, trial, first_met}
use Rattle.refusal.proofs.Trials.{cond-accepted}
use Rattle.sink.specs.Sink.{table_entries}
use Rattle.sink.specs.Rule.{Rule, breaks_rule}
use Rattle.sink.proofs.Rule.{rule-holds, rule-kept}
use Rattle.table_field.specs.Tables.{entry_place, rule_trials}
use Rattle.refusal.specs.Refusals.{Verdict}

abbrev pub broken : ℕ → Verdict
broken i = Err (record { number = 15; place = entry_place i })

module _ (table : List ℕ) where
  abbrev one : ℕ → List Trial
  one i = trial (breaks_rule table i) 15 (entry_place i) ∷ []

  -- the verdict on n entries from number i on
  abbrev pub from : ℕ → ℕ → Verdict
  from n i = first_met (gather n i one)

  start : from table_entries 0 ≡ first_met (rule_trials table)
  unfolding rule_trials
  start = refl

  -- entry number i is tried, of those up to a number
  step : (n i : ℕ) → i < n → from (n - i) i ≡ cond (breaks_rule table i) (broken i) (from (n - (i + 1)) (i + 1))
  step n i h = let e : n - i ≡ suc (n - (i + 1)) = omega arith in rw (e, add-one i) refl

  -- ---- the loop over the entries: no entry before number i breaks the rule

  pub record Tried (i : ℕ) : Type 0 where
    pub within : i ≤ table_entries
    pub left : from (table_entries - i) i ≡ first_met (rule_trials table)

  pub tried-none : Tried 0
  tried-none = record { within = omega arith; left = start }

  pub tried-more : (i : ℕ) → Tried i → i < table_entries → breaks_rule table i ≡ false → Tried (i + 1)
  tried-more i t h e =
      record {
        within = omega arith;
        left = sym (step table_entries i h ∙ ap (λ (b : Bool). cond b (broken i) (from (table_entries - (i + 1)) (i + 1))) e) ∙ t.left;
      }

  pub tried-broken : (i : ℕ) → Tried i → i < table_entries → breaks_rule table i ≡ true → broken i ≡ first_met (rule_trials table)
  tried-broken i t h e = sym (step table_entries i h ∙ ap (λ (b : Bool). cond b (broken i) (from (table_entries - (i + 1)) (i + 1))) e) ∙ t.left

  pub tried-all : (i : ℕ) → Tried i → table_entries ≤ i → (Ok tt) ≡ first_met (rule_trials table)
  tried-all i t h = let e : table_entries - i ≡ 0 = omega arith in (rw e refl) ∙ t.left

  -- ---- what acceptance says

  none-broken : (n i j : ℕ) → from n i ≡ Ok tt → i ≤ j → j < i + n → breaks_rule table j ≡ false
  none-broken zero i j e h l = absurd (omega arith)
  none-broken (suc n) i j e h l = go (cond-accepted (breaks_rule table i) _ (from n (suc i)) e) (dec_le (suc i) j) (λ r. none-broken n (suc i) j r)
    where
      go : (breaks_rule table i ≡ false) × (from n (suc i) ≡ Ok tt) → Dec (suc i ≤ j)
          → (from n (suc i) ≡ Ok tt → suc i ≤ j → j < suc i + n → breaks_rule table j ≡ false) → breaks_rule table j ≡ false
      go a (yes k) more = more a.1 k (omega arith)
      go a (no k) more = let s : i ≡ j = omega arith in rw s at a.0

  pub accepted-rule : first_met (rule_trials table) ≡ Ok tt → Rule table
  accepted-rule e = rule-holds table (λ i h. none-broken table_entries 0 i (start ∙ e) (omega arith) (omega arith))

  all-kept : (n i : ℕ) → ((j : ℕ) → i ≤ j → j < i + n → breaks_rule table j ≡ false) → from n i ≡ Ok tt
  all-kept zero i h = refl
  all-kept (suc n) i h = rw (h i (omega arith) (omega arith)) (all-kept n (suc i) (λ j a b. h j (omega arith) (omega arith)))

  pub rule-accepted : Rule table → first_met (rule_trials table) ≡ Ok tt
  rule-accepted r = sym start ∙ all-kept table_entries 0 (λ j a b. rule-kept table r j (omega arith))
