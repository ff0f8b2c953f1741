-- Serves proofs: the map calls as one, by which map is asked for.
use Rattle.std.specs.Prelude.{Bool, false, not, List, [], ◌∷◌, ℕ, ◌*◌, length}
use Rattle.geometry.specs.declared.Head.{Head}
use Rattle.geometry.specs.Plane.{Cell}
use Rattle.geometry.specs.Plate.{tabulated}
use Rattle.theory.specs.Erosion.{erosion, residue}
use Rattle.refusal.specs.Refusals.{first_met, map_trials, head_of, is_erosion_number, largest_erosion, largest_side}
use Rattle.residue_scores.specs.Scores.{score_of}
use Rattle.erosion_maps.specs.declared.Asked.{Asked}
use Rattle.erosion_maps.specs.declared.Asked.TheVariants as v
use Rattle.erosion_maps.specs.Calls.{Left}
use Rattle.refusal.specs.Refusals.{Verdict}

-- the cells of the largest plate
abbrev pub largest_area : ℕ
largest_area = largest_side * largest_side

-- whether the map has a number that no erosion has
abbrev pub wrong_number : Asked → Bool
wrong_number (v.Erosion n) = not (is_erosion_number n)
wrong_number (v.Residue n) = not (is_erosion_number n)
wrong_number (v.Scored s) = false

-- the map that is asked for
abbrev pub asked_map : Asked → Head → List ℕ → Cell → ℕ
asked_map (v.Erosion n) p m = erosion p m n
asked_map (v.Residue n) p m = residue p m n
asked_map (v.Scored s) p m = score_of s p largest_erosion m

-- what is to be said of four buffers
abbrev pub four_verdict : ℕ → ℕ → ℕ → Bool → List ℕ → List ℕ → List ℕ → List ℕ → Verdict
four_verdict k w h wrong m out a b = first_met (map_trials k w h wrong (length m ∷ length out ∷ length a ∷ length b ∷ []))

-- the whole call; of each map it is what the map's own call promises
abbrev pub AskedMap : Asked → List ℕ → ℕ → ℕ → ℕ → List ℕ → List ℕ → List ℕ → List ℕ → List ℕ → List ℕ → Verdict → Type 0
AskedMap q m k w h out out' a a' b b' =
    Left (four_verdict k w h (wrong_number q) m out a b) (h * w) (tabulated (head_of k w h) (asked_map q (head_of k w h) m)) out out' a a' b b'
