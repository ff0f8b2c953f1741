-- The lines of a table, one behind the other.
use mathlib.Core.Path.{◌≡◌, refl, sym, ap, ◌∙◌, subst}
use mathlib.Core.List.{List, [], ◌++◌}
use Prim.Native.Nat.{ℕ, ◌+◌, ◌≤◌, ◌<◌}
use native.Mathlib.Nat.{zero-add, le_antisymm}
use native.Mathlib.Omega.{arith}
use lib.ListN.{length}
use Rattle.io.specs.Counts.{IsPrefixLen}
use Rattle.geometry.specs.Lists.{gather}
use Rattle.theory.proofs.Lists.{gather-more}
use Rattle.sink.specs.Sink.{table_entries, plunge_sink}
use Rattle.phrases.specs.Phrases.{Appends, ascii, phrase}
use Rattle.phrases.proofs.Puts.{counts}
use Rattle.phrases.proofs.Appends.{Appended, appended_then, appends-none, appends-appends, appends-length}
use Rattle.table_text.specs.Text.{table_line, line_of, table_text}

pub entry-appended : {old : List ℕ} {at : ℕ} {l₁ l₂ l₃ : List ℕ} {r₁ r₂ r₃ : ℕ} → at ≤ length old → (depth entry single : ℕ) → single ≡ plunge_sink 0 entry
    → Appended old at (phrase (ascii "depth ") depth (ascii ": ")) l₁ r₁ → Appended l₁ r₁ (phrase [] entry (ascii " micrometres, ")) l₂ r₂
    → Appended l₂ r₂ (phrase [] single (ascii " at reach 0\n")) l₃ r₃ → Appended old at (table_line depth entry) l₃ r₃
entry-appended {old} {at} {l₁} {l₂} {l₃} {r₁} {r₂} {r₃} h depth entry single e a b c =
    appended_then h (appended_then h a b) (subst (λ (n : ℕ). Appended l₂ r₂ (phrase [] n (ascii " at reach 0\n")) l₃ r₃) e c)

-- the lines of the depths below one
pub record Lined (old : List ℕ) (at : ℕ) (table page : List ℕ) (end depth : ℕ) : Type 0 where
  pub within : depth ≤ table_entries
  pub text : Appends old at (gather depth 0 (line_of table)) page end
  pub counted : IsPrefixLen end page
  pub same : length page ≡ length old

module _ (old : List ℕ) (at : ℕ) (h : at ≤ length old) (table : List ℕ) where
  pub lined-none : Lined old at table old at 0
  lined-none = record { within = omega arith; text = appends-none old at h; counted = counts at old h; same = refl }

  pub lined-more : (page : List ℕ) (end d : ℕ) (new : List ℕ) (s : ℕ) → Lined old at table page end d → d < table_entries
      → Appended page end (line_of table d) new s → Lined old at table new s (d + 1)
  lined-more page end d new s w l a =
      let more : gather d 0 (line_of table) ++ line_of table d ≡ gather (d + 1) 0 (line_of table) =
      ap (λ (n : ℕ). gather d 0 (line_of table) ++ line_of table n) (sym (zero-add d)) ∙ sym (gather-more d 0 (line_of table)) in
      record {
        within = omega arith;
        text = subst (λ x. Appends old at x new s) more (appends-appends old at (gather d 0 (line_of table)) page end (line_of table d) new s h w.text a.0);
        counted = a.1;
        same = appends-length page end (line_of table d) new s w.counted.0 a.0 ∙ w.same;
      }

  pub lined-all : (page : List ℕ) (end d : ℕ) → Lined old at table page end d → table_entries ≤ d → Appended old at (table_text table) page end
  unfolding table_text
  lined-all page end d w l =
      (subst (λ (n : ℕ). Appends old at (gather n 0 (line_of table)) page end) (le_antisymm w.within l) w.text, w.counted)
