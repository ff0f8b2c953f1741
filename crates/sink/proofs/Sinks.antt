-- The sink of a plunge by any table: at each reach a larger entry sinks deeper, and of one entry no reach sinks deeper than reach 0. By a table that
-- keeps the rule it rises strictly with the depth; by the built-in one it is what it was before tables could be loaded.
use mathlib.Core.Path.{◌≡◌, refl, ap}
use mathlib.Core.List.{List}
use Prim.Native.Nat.{ℕ, zero, suc, ◌≤◌, ◌<◌}
use native.Mathlib.Nat.{le_trans}
use native.Mathlib.Omega.{arith}
use borrow.Author.Tests.{ne_eqb}
use lib.ListN.{get_or}
use Rattle.sink.specs.Sink.{table_entries, micrometres, built_in, plunge_sink, sink_micrometres}
use Rattle.sink.specs.Rule.{Rule, largest_entry}
use Rattle.sink.proofs.Rule.{deeper-larger, entry-of-depth}
use Rattle.sink.proofs.Table.{built-in-entry}

-- "Other reaches keep the table entry."
pub entry_kept : (r x : ℕ) → plunge_sink (suc r) x ≡ x
entry_kept r x = rw (ne_eqb (suc r) 0 (λ e. omega (arith, e))) refl

pub entry-rises : (reach x y : ℕ) → x < y → plunge_sink reach x < plunge_sink reach y
entry-rises zero x y h = omega arith
entry-rises (suc r) x y h = omega (arith, entry_kept r x, entry_kept r y)

pub entry-least : (reach x : ℕ) → x ≤ plunge_sink reach x
entry-least zero x = omega arith
entry-least (suc r) x = omega (arith, entry_kept r x)

pub entry-most : (reach x : ℕ) → plunge_sink reach x ≤ plunge_sink 0 x
entry-most zero x = omega arith
entry-most (suc r) x = omega (arith, entry_kept r x)

-- ---- by a table

-- reach 0 never sinks less than another reach of the same depth
pub sink-most : (table : List ℕ) (reach d : ℕ) → sink_micrometres table reach d ≤ sink_micrometres table 0 d
sink-most table reach d = entry-most reach (get_or table d 0)

-- what a forged table can ask for, whose entries are any 16-bit numbers
pub forged-most : (table : List ℕ) (reach d : ℕ) → get_or table d 0 < 65536 → sink_micrometres table reach d ≤ 72088
forged-most table reach d h = le_trans (sink-most table reach d) (omega arith)

module _ (table : List ℕ) (rule : Rule table) (reach : ℕ) where
  -- strictly rising with the depth, for each reach
  pub sink-rises : (d e : ℕ) → d < e → e < table_entries → sink_micrometres table reach d < sink_micrometres table reach e
  sink-rises d e h l = entry-rises reach (get_or table d 0) (get_or table e 0) (deeper-larger table rule d e h l)

  -- from one micrometre to 55,000
  pub least-sink : (d : ℕ) → 1 ≤ d → d < table_entries → 1 ≤ sink_micrometres table reach d
  least-sink d h l = le_trans (le_trans h (entry-of-depth table rule d l)) (entry-least reach (get_or table d 0))

  pub largest-sink : (d : ℕ) → d < table_entries → sink_micrometres table reach d ≤ 55000
  largest-sink d l = let m : get_or table d 0 ≤ largest_entry = rule.most d l in le_trans (sink-most table reach d) (omega arith)

-- ---- by the built-in table

-- the sink of document 01 with N4's tenth
pub built-in-sink : (reach d : ℕ) → d < table_entries → sink_micrometres built_in reach d ≡ plunge_sink reach (micrometres d)
built-in-sink reach d h = ap (plunge_sink reach) (built-in-entry d h)
