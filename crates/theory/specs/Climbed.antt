-- To be believed: how many erosions a relief takes until nothing is left of it (document 02, N5). Document 02's rungs climbed are the field's erosions taken.
use Rattle.std.specs.Prelude.{◌≡◌, Bool, List, [], ◌∷◌, ℕ, eqb}
use Rattle.geometry.specs.declared.Head.{Head}
use Rattle.geometry.specs.Lists.{Lowest, gather, select, lowest, highest}
use Rattle.geometry.specs.Plane.{Cell}
use Rattle.geometry.specs.Plate.{tabulated}
use Rattle.theory.specs.Erosion.{erosion}

-- "rung m is 0 everywhere"; and its test, over the cells of the plate
abbrev pub Bare : Head → List ℕ → ℕ → Type 0
Bare p m k = (c : Cell) → erosion p m k c ≡ 0

abbrev pub bare : Head → List ℕ → ℕ → Bool
bare p m k = eqb (highest 0 (tabulated p (erosion p m k))) 0

-- "The count is the smallest m for which rung m is 0 everywhere": the property, and the number that has it. From the plate's height on all are
abbrev pub IsErosionCount : Head → List ℕ → ℕ → Type 0
IsErosionCount p m = Lowest (Bare p m) (λ k. k)

unfoldable pub erosion_count : Head → List ℕ → ℕ
erosion_count p m = lowest p.height (select (bare p m) (gather p.height 0 (λ k. k ∷ [])))
