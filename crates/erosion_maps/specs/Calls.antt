-- To be believed: maps of all levels at once, as calls: erosion (rung), residue and score maps, and the volume (document 01, "Scores and
-- volume" and "Refusals in their order").
use Rattle.std.specs.Prelude.{false, not, List, [], ◌∷◌, ℕ, ◌*◌, length, Ok, Err, Result}
use Rattle.geometry.specs.Plate.{tabulated}
use Rattle.theory.specs.Erosion.{erosion, residue, volume}
use Rattle.residue_scores.specs.declared.Score.{Score}
use Rattle.refusal.specs.Refusals.{first_met, map_trials, side_trials, head_of, is_erosion_number, largest_erosion, Answered, Worked}
use Rattle.residue_scores.specs.Scores.{score_of}
use Rattle.refusal.specs.Refusals.{Verdict}
use Rattle.refusal.specs.declared.Refusal.{Refusal}

-- the buffers of a call: its relief, its output and two work buffers
abbrev lengths : List ℕ → List ℕ → List ℕ → List ℕ → List ℕ
lengths m out a b = length m ∷ length out ∷ length a ∷ length b ∷ []

-- "3: rung or residue number not 1 to 120"
abbrev pub erosion_verdict : List ℕ → ℕ → ℕ → ℕ → ℕ → List ℕ → List ℕ → List ℕ → Verdict
erosion_verdict m k w h n out a b = first_met (map_trials k w h (not (is_erosion_number n)) (lengths m out a b))

abbrev pub score_verdict : List ℕ → ℕ → ℕ → ℕ → List ℕ → List ℕ → List ℕ → Verdict
score_verdict m k w h out a b = first_met (map_trials k w h false (lengths m out a b))

-- what a call leaves: the answer, the output's bytes, and work bytes that are free only where it is accepted
pub record Left (verdict : Verdict) (area : ℕ) (new out out' a a' b b' : List ℕ) (r : Verdict) : Type 0 where
  pub answered : Answered verdict new out out' r
  pub first : Worked verdict area a a'
  pub second : Worked verdict area b b'

abbrev pub ErosionMap : List ℕ → ℕ → ℕ → ℕ → ℕ → List ℕ → List ℕ → List ℕ → List ℕ → List ℕ → List ℕ → Verdict → Type 0
ErosionMap m k w h n out out' a a' b b' =
    Left (erosion_verdict m k w h n out a b) (h * w) (tabulated (head_of k w h) (erosion (head_of k w h) m n)) out out' a a' b b'

abbrev pub ResidueMap : List ℕ → ℕ → ℕ → ℕ → ℕ → List ℕ → List ℕ → List ℕ → List ℕ → List ℕ → List ℕ → Verdict → Type 0
ResidueMap m k w h n out out' a a' b b' =
    Left (erosion_verdict m k w h n out a b) (h * w) (tabulated (head_of k w h) (residue (head_of k w h) m n)) out out' a a' b b'

abbrev pub ScoreMap : Score → List ℕ → ℕ → ℕ → ℕ → List ℕ → List ℕ → List ℕ → List ℕ → List ℕ → List ℕ → Verdict → Type 0
ScoreMap s m k w h out out' a a' b b' =
    Left (score_verdict m k w h out a b) (h * w) (tabulated (head_of k w h) (score_of s (head_of k w h) largest_erosion m)) out out' a a' b b'

-- the volume takes no kind: head_of's serves, since no kind changes a depth
abbrev pub volume_answer : Verdict → ℕ → Result ℕ Refusal
volume_answer (Ok _) v = Ok v
volume_answer (Err r) v = Err r

abbrev pub volume_of : List ℕ → ℕ → ℕ → Result ℕ Refusal
volume_of m w h = volume_answer (first_met (side_trials w h false (length m ∷ []))) (volume (head_of 4 w h) m)
