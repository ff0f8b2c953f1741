-- Serves proofs: what a pass over a file's plunges gives.
use Rattle.std.specs.Prelude.{◌≡◌, List, ℕ, suc, ◌<◌, length, get_or, replicate}
use Rattle.geometry.specs.declared.Plunge.{Plunge}
use Rattle.geometry.specs.Forms.{largest_reach}
use Rattle.refusal.specs.Refusals.{largest_level}
use Rattle.job_figures.specs.Figures.{count_of, least_depth, greatest_depth}

-- how many reaches there are, from 0 to the largest
abbrev pub reaches : ℕ
reaches = suc largest_reach

-- no plunge yet: none counted, and the depths from which the least falls and the greatest rises
pub record Untallied (counts least greatest : List ℕ) : Type 0 where
  pub none : counts ≡ replicate reaches 0
  pub low : least ≡ replicate reaches largest_level
  pub high : greatest ≡ replicate reaches 0

-- an entry for each reach
pub record ByReach (figure : ℕ → ℕ) (entries : List ℕ) : Type 0 where
  pub size : length entries ≡ reaches
  pub each : (r : ℕ) → r < reaches → get_or entries r 0 ≡ figure r

-- for each reach the number of its plunges, their least and their greatest depth
pub record Tallied (qs : List Plunge) (counts least greatest : List ℕ) : Type 0 where
  pub counted : ByReach (λ r. count_of r qs) counts
  pub low : ByReach (λ r. least_depth r qs) least
  pub high : ByReach (λ r. greatest_depth r qs) greatest

-- no way is longer between cells whose columns and rows have 16 bits
abbrev pub longest_way : ℕ
longest_way = 131070
