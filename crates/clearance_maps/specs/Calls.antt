-- To be believed: maps of one level, as calls: what each answers, and what its output holds at exit (document 01, "One level at a time").
use Rattle.std.specs.Prelude.{false, not, List, [], ◌∷◌, ℕ, length}
use Rattle.geometry.specs.Plate.{tabulated}
use Rattle.theory.specs.Levels.{clearance, axis, reconstructed}
use Rattle.refusal.specs.Refusals.{first_met, map_trials, is_level, head_of, Answered}
use Rattle.refusal.specs.Refusals.{Verdict}

-- "3: level 0", where a level is 1 to 255
abbrev pub level_verdict : List ℕ → ℕ → ℕ → ℕ → ℕ → List ℕ → Verdict
level_verdict m k w h t out = first_met (map_trials k w h (not (is_level t)) (length m ∷ length out ∷ []))

-- drawing back has no number that 3 is about
abbrev pub reconstruct_verdict : List ℕ → ℕ → ℕ → ℕ → List ℕ → Verdict
reconstruct_verdict m k w h out = first_met (map_trials k w h false (length m ∷ length out ∷ []))

abbrev pub ClearanceMap : List ℕ → ℕ → ℕ → ℕ → ℕ → List ℕ → List ℕ → Verdict → Type 0
ClearanceMap m k w h t out = Answered (level_verdict m k w h t out) (tabulated (head_of k w h) (clearance (head_of k w h) m t)) out

abbrev pub AxisMap : List ℕ → ℕ → ℕ → ℕ → ℕ → List ℕ → List ℕ → Verdict → Type 0
AxisMap m k w h t out = Answered (level_verdict m k w h t out) (tabulated (head_of k w h) (axis (head_of k w h) m t)) out

abbrev pub Reconstruction : List ℕ → ℕ → ℕ → ℕ → List ℕ → List ℕ → Verdict → Type 0
Reconstruction m k w h out = Answered (reconstruct_verdict m k w h out) (tabulated (head_of k w h) (reconstructed (head_of k w h) m)) out
