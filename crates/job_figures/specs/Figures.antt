-- To be believed: a job's figures by its list: the plunges of each reach, and the way from plunge to plunge.
use Rattle.std.specs.Prelude.{Bool, List, [], ◌∷◌, map, ℕ, ◌+◌, eqb, length}
use Rattle.geometry.specs.declared.Kind.TheVariants.{Diamond}
use Rattle.geometry.specs.declared.Plunge.{Plunge}
use Rattle.geometry.specs.Lists.{select, lowest, highest}
use Rattle.geometry.specs.Plane.{dist}
use Rattle.geometry.specs.Plunges.{centre}
use Rattle.refusal.specs.Refusals.{largest_level}

-- ---- the plunges of a reach

abbrev pub has_reach : ℕ → Plunge → Bool
has_reach r q = eqb q.reach.0 r

abbrev pub plunges_of : ℕ → List Plunge → List Plunge
plunges_of r qs = select (has_reach r) qs

-- how many there are
abbrev pub count_of : ℕ → List Plunge → ℕ
count_of r qs = length (plunges_of r qs)

-- their depths, the least of them and the greatest; where there is none, the largest depth and 0
abbrev pub depths_of : ℕ → List Plunge → List ℕ
depths_of r qs = map (λ q. q.depth) (plunges_of r qs)

abbrev pub least_depth : ℕ → List Plunge → ℕ
least_depth r qs = lowest largest_level (depths_of r qs)

abbrev pub greatest_depth : ℕ → List Plunge → ℕ
greatest_depth r qs = highest 0 (depths_of r qs)

-- ---- the way from plunge to plunge

-- "column difference plus row difference", the diamond's distance, from a plunge to the next, added up
abbrev pub travel_after : Plunge → List Plunge → ℕ
travel_after q [] = 0
travel_after q (o ∷ qs) = dist Diamond (centre q) (centre o) + travel_after o qs

-- of a whole list: it begins at the first plunge
abbrev pub travel_in : List Plunge → ℕ
travel_in [] = 0
travel_in (q ∷ qs) = travel_after q qs
