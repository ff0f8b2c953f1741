-- Serves proofs: drawing a plunge file reach by reach: which of its plunges have a reach, and what placing some plunges leaves in a map.
use Rattle.std.specs.Prelude.{◌≡◌, ◌⊎◌, List, ℕ, suc, ◌+◌, ◌*◌, ◌≤◌, ◌<◌, length, get_or}
use Rattle.geometry.specs.declared.Head.{Head}
use Rattle.geometry.specs.declared.Plunge.{Plunge}
use Rattle.geometry.specs.Forms.{largest_reach}
use Rattle.reading.specs.Reading.{nth_plunge}

-- how many reaches there are, from 0 to the largest
abbrev pub reaches : ℕ
reaches = suc largest_reach

-- the reach of plunge number i of a file
abbrev pub reach_in : List ℕ → ℕ → ℕ
reach_in f i = (nth_plunge f i).reach.0

-- for each reach a stretch of a list that has all plunges of that reach among the first n; no reach is above top
pub record Ranges (reach : ℕ → ℕ) (n : ℕ) (first last : List ℕ) (top : ℕ) : Type 0 where
  pub first-size : length first ≡ reaches
  pub last-size : length last ≡ reaches
  pub starts : (i : ℕ) → i < n → get_or first (reach i) 0 ≤ i
  pub ends : (i : ℕ) → i < n → i < get_or last (reach i) 0
  pub ordered : (r : ℕ) → get_or first r 0 ≤ get_or last r 0
  pub within : (r : ℕ) → get_or last r 0 ≤ n
  pub largest : (i : ℕ) → i < n → reach i ≤ top
  pub small : top ≤ largest_reach

-- where a plunge's centre stands in a map
abbrev pub centre_at : Head → Plunge → ℕ
centre_at p q = q.row * p.width + q.column

-- the number at place n is the depth of a plunge of reach r, from one up to another, that is centred there
abbrev pub Of : Head → (ℕ → Plunge) → ℕ → ℕ → ℕ → List ℕ → ℕ → Type 0
Of p nth r from to new n = (i : ℕ) × (from ≤ i) × (i < to) × ((nth i).reach.0 ≡ r) × (centre_at p (nth i) ≡ n) × ((nth i).depth ≡ get_or new n 0)

-- the plunges of reach r from one up to another, each of which raised the number at its centre to its depth at least
pub record Raised (p : Head) (nth : ℕ → Plunge) (r from to : ℕ) (old new : List ℕ) : Type 0 where
  pub same : length new ≡ length old
  pub low : (n : ℕ) → get_or old n 0 ≤ get_or new n 0
  pub bound : (i : ℕ) → from ≤ i → i < to → (nth i).reach.0 ≡ r → (nth i).depth ≤ get_or new (centre_at p (nth i)) 0
  pub met : (n : ℕ) → (get_or new n 0 ≡ get_or old n 0) ⊎ Of p nth r from to new n
