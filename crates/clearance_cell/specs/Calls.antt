-- To be believed: the clearance of one cell, as a call (document 01, "One level at a time" and "Refusals in their order").
use Rattle.std.specs.Prelude.{Bool, true, cond, not, List, [], ◌∷◌, ℕ, ltb, length, Ok, Err, Result}
use Rattle.geometry.specs.Plane.{cell}
use Rattle.theory.specs.Levels.{clearance}
use Rattle.refusal.specs.Refusals.{first_met, map_trials, is_level, head_of}
use Rattle.refusal.specs.Refusals.{Verdict}
use Rattle.geometry.specs.declared.Clearance.{Clearance}
use Rattle.refusal.specs.declared.Refusal.{Refusal}

-- "3: level 0; … single cell off the plate", where a level is 1 to 255
abbrev pub wrong_cell : ℕ → ℕ → ℕ → ℕ → ℕ → Bool
wrong_cell t x y w h = cond (is_level t) (cond (ltb x w) (not (ltb y h)) true) true

abbrev pub cell_answer : Verdict → ℕ → Result Clearance Refusal
cell_answer (Ok _) d = Ok (record { 0 = d })
cell_answer (Err r) d = Err r

-- the whole answer
abbrev pub clearance_answer : List ℕ → ℕ → ℕ → ℕ → ℕ → ℕ → ℕ → Result Clearance Refusal
clearance_answer m k w h t x y =
    cell_answer (first_met (map_trials k w h (wrong_cell t x y w h) (length m ∷ []))) (clearance (head_of k w h) m t (cell x y))
