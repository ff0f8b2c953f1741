-- The rule of a table is what no entry breaks: one computed test over the whole table gives it at each entry.
use mathlib.Core.Path.{◌≡◌, refl}
use mathlib.Core.Bool.{Bool, true, false, cond, not}
use mathlib.Core.List.{List}
use Prim.Native.Nat.{ℕ, zero, suc, ◌-◌, ◌≤◌, ◌<◌}
use native.Mathlib.Omega.{arith}
use native.Mathlib.Decide.{dec_le}
use borrow.Author.Tests.{ltb-false, leb-false, eqb-true, not-false, le-ltb, lt-leb, eq-eqb, ne_eqb}
use lib.Dec.{T, eqb, leb, ltb}
use lib.ListN.{get_or}
use Rattle.sink.specs.Sink.{table_entries}
use Rattle.sink.specs.Rule.{Rule, largest_entry, breaks_rule}

passed : (b : Bool) → T (not b) → b ≡ false
passed true t = absurd t
passed false t = refl

-- what is known of three tests, none of which is met
none : (a b c d : Bool) → cond a true (cond b c d) ≡ false → (a ≡ false) × (b ≡ true → c ≡ false) × (b ≡ false → d ≡ false)
none true b c d e = let z : ◌≡◌ {A = ℕ} 0 1 = cc in absurd (omega arith)
none false true c d e = (refl, (λ (x : _). e), (λ (x : _). let z : ◌≡◌ {A = ℕ} 0 1 = cc in absurd (omega arith)))
none false false c d e = (refl, (λ (x : _). let z : ◌≡◌ {A = ℕ} 0 1 = cc in absurd (omega arith)), (λ (x : _). e))

before : (d : ℕ) → suc d - 1 ≡ d
before d = omega arith

-- no entry breaks the rule: the rule holds
pub rule-holds : (table : List ℕ) → ((i : ℕ) → i < table_entries → breaks_rule table i ≡ false) → Rule table
rule-holds table h = record { first = first; rises = rises; most = most }
  where
    known : (i : ℕ) → i < table_entries → (ltb largest_entry (get_or table i 0) ≡ false) × (eqb i 0 ≡ true → not (eqb (get_or table i 0) 0) ≡ false)
        × (eqb i 0 ≡ false → leb (get_or table i 0) (get_or table (i - 1) 0) ≡ false)
    known i l = none (ltb largest_entry (get_or table i 0)) (eqb i 0) (not (eqb (get_or table i 0) 0)) (leb (get_or table i 0) (get_or table (i - 1) 0)) (h i l)

    first : get_or table 0 0 ≡ 0
    first = eqb-true (get_or table 0 0) 0 (not-false (eqb (get_or table 0 0) 0) ((known 0 (omega arith)).1 refl))

    rises : (d : ℕ) → suc d < table_entries → get_or table d 0 < get_or table (suc d) 0
    rises d l = leb-false (get_or table (suc d) 0) (get_or table d 0) (rw (before d) at ((known (suc d) l).2 (ne_eqb (suc d) 0 (λ e. omega (arith, e)))))

    most : (d : ℕ) → d < table_entries → get_or table d 0 ≤ largest_entry
    most d l = ltb-false largest_entry (get_or table d 0) (known d l).0

pub rule-of-test : (table : List ℕ) → ((i : ℕ) → i < table_entries → T (not (breaks_rule table i))) → Rule table
rule-of-test table h = rule-holds table (λ i l. passed (breaks_rule table i) (h i l))

-- and where it holds no entry breaks it
pub rule-kept : (table : List ℕ) → Rule table → (i : ℕ) → i < table_entries → breaks_rule table i ≡ false
rule-kept table r zero l = rw (le-ltb largest_entry (get_or table 0 0) (r.most 0 l), eq-eqb (get_or table 0 0) 0 r.first) refl
rule-kept table r (suc d) l =
    rw (
      le-ltb largest_entry (get_or table (suc d) 0) (r.most (suc d) l),
      ne_eqb (suc d) 0 (λ e. omega (arith, e)),
      before d,
      lt-leb (get_or table (suc d) 0) (get_or table d 0) (r.rises d l),
    )
    refl

-- ---- what follows

-- a deeper cell has a larger entry
pub deeper-larger : (table : List ℕ) → Rule table → (d e : ℕ) → d < e → e < table_entries → get_or table d 0 < get_or table e 0
deeper-larger table r d zero h l = absurd (omega arith)
deeper-larger table r d (suc e) h l = go (λ k. deeper-larger table r d e k (omega arith)) (dec_le (suc d) e)
  where
    go : (suc d ≤ e → get_or table d 0 < get_or table e 0) → Dec (suc d ≤ e) → get_or table d 0 < get_or table (suc e) 0
    go more (yes k) = omega (arith, more k, r.rises e l)
    go more (no k) = let s : d ≡ e = omega arith in rw s (r.rises e l)

-- so that no entry is below its depth
pub entry-of-depth : (table : List ℕ) → Rule table → (d : ℕ) → d < table_entries → d ≤ get_or table d 0
entry-of-depth table r zero l = omega arith
entry-of-depth table r (suc d) l = omega (arith, entry-of-depth table r d (omega arith), r.rises d l)
