-- The lines of a job's figures, appended one behind the other.
use mathlib.Core.Path.{◌≡◌, refl, sym, ap, ◌∙◌, subst}
use mathlib.Core.Bool.{Bool}
use mathlib.Core.List.{List, [], ◌++◌}
use Prim.Native.Nat.{ℕ, ◌+◌, ◌≤◌, ◌<◌}
use native.Mathlib.Omega.{arith}
use native.Mathlib.Nat.{le_antisymm, zero-add}
use borrow.Author.Tests.{eq-eqb, ne_eqb}
use lib.ListN.{length, get_or}
use Rattle.geometry.specs.declared.Head.{Head}
use Rattle.geometry.specs.declared.Plunge.{Plunge}
use Rattle.geometry.specs.Lists.{gather}
use Rattle.geometry.specs.Forms.{kind_byte}
use Rattle.theory.proofs.Lists.{gather-more}
use Rattle.io.specs.Counts.{IsPrefixLen}
use Rattle.phrases.specs.Phrases.{ascii, phrase, Appends}
use Rattle.phrases.proofs.Puts.{counts}
use Rattle.phrases.proofs.Appends.{Appended, appended, appended_then, appends-none, appends-appends, appends-length}
use Rattle.reading.specs.declared.Job.{Job}
use Rattle.reading.specs.Reading.{plunges_in}
use Rattle.reading.specs.Steps.{JobOf}
use Rattle.motion.specs.Changes.{changes_in}
use Rattle.job_figures.specs.Figures.{travel_in}
use Rattle.job_relief.specs.Relief.{volume_in, is_tidy}
use Rattle.job_summary.specs.Summary.{plate_line, plunges_line, reach_line, line_of_reach, reach_at, reach_lines, changes_line, travel_line, list_text, volume_line, tidy_line, summary_text}
use Rattle.job_figures.specs.Passes.{reaches, Tallied}

-- ---- one line

module _ {old : List ℕ} {at : ℕ} (h : at ≤ length old) {l₁ l₂ l₃ : List ℕ} {r₁ r₂ r₃ : ℕ} where
  pub plate-appended : (p : Head) (k : ℕ) → k ≡ kind_byte p.kind → Appended old at (phrase (ascii "plate ") p.width (ascii " by ")) l₁ r₁
      → Appended l₁ r₁ (phrase [] p.height (ascii ", kind ")) l₂ r₂ → Appended l₂ r₂ (phrase [] k (ascii "\n")) l₃ r₃
      → Appended old at (plate_line p) l₃ r₃
  unfolding plate_line
  plate-appended p k e a b c =
      appended_then h (appended_then h a b) (subst (λ (n : ℕ). Appended l₂ r₂ (phrase [] n (ascii "\n")) l₃ r₃) e c)

  pub reach-appended : {l₄ : List ℕ} {r₄ : ℕ} (r n low high : ℕ) → Appended old at (phrase (ascii "reach ") r (ascii ": plunges ")) l₁ r₁
      → Appended l₁ r₁ (phrase [] n (ascii ", depths ")) l₂ r₂ → Appended l₂ r₂ (phrase [] low (ascii " to ")) l₃ r₃
      → Appended l₃ r₃ (phrase [] high (ascii "\n")) l₄ r₄ → Appended old at (reach_line r n low high) l₄ r₄
  unfolding reach_line
  reach-appended r n low high a b c d = appended_then h (appended_then h (appended_then h a b) c) d

-- no line for a reach that no plunge has
pub found_none : (old : List ℕ) (at r n low high : ℕ) → at ≤ length old → n ≡ 0 → Appended old at (line_of_reach r n low high) old at
found_none old at r n low high h e = rw (eq-eqb n 0 e) (appended h (appends-none old at h))

pub found_some : (old : List ℕ) (at r n low high : ℕ) (new : List ℕ) (s : ℕ) → (n ≡ 0 → ⊥) → Appended old at (reach_line r n low high) new s
    → Appended old at (line_of_reach r n low high) new s
found_some old at r n low high new s e a = rw (ne_eqb n 0 e) a

-- ---- the lines of all reaches

-- the lines of the reaches below one
pub record Lined (old : List ℕ) (at : ℕ) (qs : List Plunge) (page : List ℕ) (end reach : ℕ) : Type 0 where
  pub within : reach ≤ reaches
  pub text : Appends old at (gather reach 0 (reach_at qs)) page end
  pub counted : IsPrefixLen end page
  pub same : length page ≡ length old

module _ (old : List ℕ) (at : ℕ) (h : at ≤ length old) (qs : List Plunge) where
  pub lined-none : Lined old at qs old at 0
  lined-none = record { within = omega arith; text = appends-none old at h; counted = counts at old h; same = refl }

  pub lined-more : (counts least greatest : List ℕ) → Tallied qs counts least greatest → (page : List ℕ) (end r : ℕ) (new : List ℕ) (s : ℕ)
      → Lined old at qs page end r → r < reaches
      → Appended page end (line_of_reach r (get_or counts r 0) (get_or least r 0) (get_or greatest r 0)) new s → Lined old at qs new s (r + 1)
  lined-more counts least greatest t page end r new s w l a =
      let line : line_of_reach r (get_or counts r 0) (get_or least r 0) (get_or greatest r 0) ≡ reach_at qs r =
      (λ i. line_of_reach r (t.counted.each r l i) (t.low.each r l i) (t.high.each r l i)) in
      let more : gather r 0 (reach_at qs) ++ line_of_reach r (get_or counts r 0) (get_or least r 0) (get_or greatest r 0) ≡ gather (r + 1) 0 (reach_at qs) =
      ap (λ x. gather r 0 (reach_at qs) ++ x) (line ∙ ap (reach_at qs) (sym (zero-add r))) ∙ sym (gather-more r 0 (reach_at qs)) in
      record {
        within = omega arith;
        text = subst (λ x. Appends old at x new s) more (appends-appends old at (gather r 0 (reach_at qs)) page end _ new s h w.text a.0);
        counted = a.1;
        same = appends-length page end _ new s w.counted.0 a.0 ∙ w.same;
      }

  pub lined-all : (page : List ℕ) (end r : ℕ) → Lined old at qs page end r → reaches ≤ r → Appended old at (reach_lines qs) page end
  unfolding reach_lines
  lined-all page end r w l =
      (subst (λ (n : ℕ). Appends old at (gather n 0 (reach_at qs)) page end) (le_antisymm w.within l) w.text, w.counted)

-- ---- the whole text

module _ {old : List ℕ} {at : ℕ} (h : at ≤ length old) (f : List ℕ) {l₁ l₂ : List ℕ} {r₁ r₂ : ℕ} where
  pub list-appended : {l₃ l₄ l₅ : List ℕ} {r₃ r₄ r₅ : ℕ} (j : Job) (changes travel : ℕ) → JobOf f j → changes ≡ changes_in (plunges_in f) → travel ≡ travel_in (plunges_in f)
      → Appended old at (plate_line j.head) l₁ r₁ → Appended l₁ r₁ (plunges_line j.plunges) l₂ r₂
      → Appended l₂ r₂ (reach_lines (plunges_in f)) l₃ r₃ → Appended l₃ r₃ (changes_line changes) l₄ r₄ → Appended l₄ r₄ (travel_line travel) l₅ r₅
      → Appended old at (list_text f) l₅ r₅
  list-appended {l₃} {l₄} {l₅} {r₃} {r₄} {r₅} j changes travel w x y a b c d e =
      appended_then h
      (appended_then h
      (appended_then h
      (appended_then h (subst (λ (p : Head). Appended old at (plate_line p) l₁ r₁) w.head a)
      (subst (λ (n : ℕ). Appended l₁ r₁ (plunges_line n) l₂ r₂) w.plunges b))
      c)
      (subst (λ (n : ℕ). Appended l₃ r₃ (changes_line n) l₄ r₄) x d))
      (subst (λ (n : ℕ). Appended l₄ r₄ (travel_line n) l₅ r₅) y e)

  pub summary-appended : (volume : ℕ) (tidy : Bool) → volume ≡ volume_in f → tidy ≡ is_tidy f → Appended old at (list_text f) l₁ r₁
      → Appended l₁ r₁ (volume_line volume ++ tidy_line tidy) l₂ r₂ → Appended old at (summary_text f) l₂ r₂
  unfolding summary_text
  summary-appended volume tidy x y a b =
      appended_then h a
      (subst (λ (t : Bool). Appended l₁ r₁ (volume_line (volume_in f) ++ tidy_line t) l₂ r₂) y
      (subst (λ (n : ℕ). Appended l₁ r₁ (volume_line n ++ tidy_line tidy) l₂ r₂) x b))
