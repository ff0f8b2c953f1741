-- The motion call: its plunge by its number, and the answer by the tests that were made.
use Rattle.std.specs.Prelude.{Ok, Err}
use mathlib.Core.Path.{◌≡◌, sym, ap, ap₂, ◌∙◌}
use mathlib.Core.Bool.{Bool, true, false, not}
use mathlib.Core.List.{List, [], ◌∷◌}
use Prim.Native.Nat.{ℕ, ◌-◌, ◌≤◌, ◌<◌}
use borrow.Author.Tests.{ltb-true, lt-ltb, le-ltb, eq-eqb, ne_eqb, not-false}
use lib.Dec.{eqb, ltb}
use lib.ListN.{get_or}
use Rattle.geometry.specs.declared.Plunge.{Plunge}
use Rattle.refusal.specs.declared.Refusal.{Refusal}
use Rattle.refusal.specs.Refusals.{trial, first_met}
use Rattle.refusal.proofs.Trials.{cond-accepted}
use Rattle.reading.specs.declared.Job.{Job}
use Rattle.reading.specs.Reading.{total, nth_plunge}
use Rattle.reading.specs.Steps.{JobOf}
use Rattle.reading.proofs.Answers.{after-file}
use Rattle.motion_floats.specs.declared.Scale.{Scale}
use Rattle.motion_floats.specs.declared.Motions.{Motions}
use Rattle.motion_floats.specs.Floats.{scale_in_range, entry_motions, motions_of}
use Rattle.motion.specs.Motions.{changes, ask_trials, motion_verdict, motion_answer, motions_in}
use Rattle.refusal.specs.Refusals.{Verdict}

-- whether the electrode changes
pub changes-first : (f : List ℕ) (i : ℕ) → i ≡ 0 → true ≡ changes f i
changes-first f i e = rw (eq-eqb i 0 e)

pub changes-later : (f : List ℕ) (i : ℕ) (q o : Plunge) → (i ≡ 0 → ⊥) → q ≡ nth_plunge f i → o ≡ nth_plunge f (i - 1)
    → not (eqb q.reach.0 o.reach.0) ≡ changes f i
changes-later f i q o h e g =
    ap₂ (λ (a b : Plunge). not (eqb a.reach.0 b.reach.0)) e g ∙ sym (rw (ne_eqb i 0 h))

-- ---- 13 and 14

module _ (plunges i : ℕ) (s : Scale) where
  pub scale-refused : scale_in_range s ≡ false → Err (record { number = 13; place = 0 }) ≡ first_met (ask_trials plunges i s)
  scale-refused e = rw e

  pub number-refused : scale_in_range s ≡ true → plunges ≤ i → Err (record { number = 14; place = 0 }) ≡ first_met (ask_trials plunges i s)
  number-refused e h = rw (e, le-ltb i plunges h)

  pub none-refused : scale_in_range s ≡ true → i < plunges → (Ok tt) ≡ first_met (ask_trials plunges i s)
  none-refused e h = rw (e, lt-ltb i plunges h)

  pub number-below : first_met (ask_trials plunges i s) ≡ Ok tt → i < plunges
  number-below e =
      let scale = cond-accepted (not (scale_in_range s)) _ (first_met (trial (not (ltb i plunges)) 14 0 ∷ [])) e in
      ltb-true i plunges (not-false (ltb i plunges) (cond-accepted (not (ltb i plunges)) _ (Ok tt) scale.1).0)

-- ---- the answer, for a file that was read

module _ (f : List ℕ) (i : ℕ) (s : Scale) (job : Job) (read : JobOf f job) (v : Verdict) (e : v ≡ first_met (ask_trials job.plunges i s)) where
  pub asked-below : v ≡ Ok tt → i < total f
  asked-below g = rw read.plunges at (number-below job.plunges i s (sym e ∙ g))

module _ (table f : List ℕ) (i : ℕ) (s : Scale) (job : Job) (read : JobOf f job) (v : Verdict) (e : v ≡ first_met (ask_trials job.plunges i s)) where
  verdict : motion_verdict f i s ≡ v
  verdict = after-file f _ read.readable ∙ ap (λ (n : ℕ). first_met (ask_trials n i s)) (sym read.plunges) ∙ sym e

  answer-of : (u : Verdict) → v ≡ u → motion_answer u (motions_of table s (changes f i) (nth_plunge f i)) ≡ motions_in table f i s
  answer-of u g = ap (λ (w : Verdict). motion_answer w (motions_of table s (changes f i) (nth_plunge f i))) (sym (verdict ∙ g))

  pub not-moved : (r : Refusal) → v ≡ Err r → Err r ≡ motions_in table f i s
  not-moved r g = answer-of (Err r) g

  pub moves : v ≡ Ok tt → (changed : Bool) (q : Plunge) (entry : ℕ) (m : Motions) → changed ≡ changes f i → q ≡ nth_plunge f i
      → entry ≡ get_or table q.depth 0 → m ≡ entry_motions entry s changed q → Ok m ≡ motions_in table f i s
  moves g changed q entry m a b x y =
      ap Ok (y ∙ ap (λ (n : ℕ). entry_motions n s changed q) x ∙ ap₂ (motions_of table s) a b) ∙ answer-of (Ok tt) g
