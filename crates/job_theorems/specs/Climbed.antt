-- To be believed: what the rungs climbed say of a relief and of its list (document 02, N5), about what the calls list and tidy answer.
use Rattle.std.specs.Prelude.{◌≡◌, ◌↔◌, ℕ, ◌+◌, ◌/◌, ◌≤◌, ◌<◌, min, Result, Ok, Err}
use mathlib.Core.List.{List, Memᴰ}
use Rattle.geometry.specs.declared.Head.{Head}
use Rattle.geometry.specs.declared.Plunge.{Plunge}
use Rattle.geometry.specs.Plane.{Cell}
use Rattle.geometry.specs.Plate.{at}
use Rattle.theory.specs.Climbed.{IsErosionCount}
use Rattle.listing.specs.declared.Extent.{Extent}
use Rattle.refusal.specs.declared.Refusal.{Refusal}

-- the count in an answer; a refusal has none
abbrev pub erosions_of : Result Extent Refusal → ℕ
erosions_of (Ok e) = e.erosions
erosions_of (Err r) = 0

-- n rungs were climbed for the list qs of relief m
pub record Climbed (p : Head) (m : List ℕ) (qs : List Plunge) (n : ℕ) : Type 0 where
  -- "the smallest m for which rung m is 0 everywhere"
  pub smallest : IsErosionCount p m n
  -- "at most the smaller side plus 1, halved and rounded down"
  pub bound : n ≤ (min p.width p.height + 1) / 2
  -- "A relief of all 0 reports 0", and no other does
  pub none : (n ≡ 0) ↔ ((c : Cell) → at p m c ≡ 0)
  -- no listed plunge has as large a reach; above 0, some listed plunge has the reach one less
  pub under : (q : Plunge) → Memᴰ q qs → q.reach.0 < n
  pub met : 1 ≤ n → (q : Plunge) × Memᴰ q qs × (q.reach.0 + 1 ≡ n)
