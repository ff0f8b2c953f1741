-- To be believed: the press motions of a plunge of a file by a sink table (document 01, "Press motions"; document 02, N6).
use Rattle.std.specs.Prelude.{Bool, true, cond, not, List, [], ◌∷◌, ◌++◌, ℕ, ◌-◌, eqb, ltb, Ok, Err, Result}
use Rattle.refusal.specs.Refusals.{Trial, trial, first_met}
use Rattle.reading.specs.Reading.{file_trials, nth_plunge, total}
use Rattle.motion_floats.specs.declared.Scale.{Scale}
use Rattle.motion_floats.specs.Floats.{scale_in_range, motions_of}
use Rattle.motion_floats.specs.declared.Motions.{Motions}
use Rattle.refusal.specs.Refusals.{Verdict}
use Rattle.refusal.specs.declared.Refusal.{Refusal}

-- "Change comes for i = 0 or where the reach differs from plunge i−1"
abbrev pub changes : List ℕ → ℕ → Bool
changes f i = cond (eqb i 0) true (not (eqb (nth_plunge f i).reach.0 (nth_plunge f (i - 1)).reach.0))

-- "13: a scale number outside its range or not a number", "14: plunge number not below the total"
abbrev pub ask_trials : ℕ → ℕ → Scale → List Trial
ask_trials plunges i s = trial (not (scale_in_range s)) 13 0 ∷ trial (not (ltb i plunges)) 14 0 ∷ []

-- "file faults in reading order; then 4, 13, 14"
abbrev pub motion_verdict : List ℕ → ℕ → Scale → Verdict
motion_verdict f i s = first_met (file_trials f ++ ask_trials (total f) i s)

abbrev pub motion_answer : Verdict → Motions → Result Motions Refusal
motion_answer (Ok _) m = Ok m
motion_answer (Err r) m = Err r

-- N6: "Motions then use the loaded table"
abbrev pub motions_in : List ℕ → List ℕ → ℕ → Scale → Result Motions Refusal
motions_in table f i s = motion_answer (motion_verdict f i s) (motions_of table s (changes f i) (nth_plunge f i))
