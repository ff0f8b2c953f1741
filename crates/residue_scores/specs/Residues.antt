-- Serves proofs: what one step of a score asks of its buffers and does to them: the residue of two erosions, joined at each cell.
use Rattle.std.specs.Prelude.{◌≡◌, List, ℕ, ◌+◌, ◌-◌, ◌*◌, ◌≤◌, ◌<◌, min, max, length, get_or}
use Rattle.geometry.specs.declared.Head.{Head}
use Rattle.geometry.specs.Plane.{cell}
use Rattle.geometry.specs.Plate.{area, at}
use Rattle.theory.specs.Erosion.{highest_near}
use Rattle.buffers.specs.Margin.{Margin}
use Rattle.erosion_step.specs.Steps.{step_numbers}
use Rattle.residue_scores.specs.declared.Score.{Score}
use Rattle.residue_scores.specs.declared.Score.TheVariants.{Largest, Sum}

-- two erosions and a score, each with room for a plate
pub record ScoreBuffers (p : Head) (prev cur out : List ℕ) : Type 0 where
  pub before : area p ≤ length prev
  pub after : area p ≤ length cur
  pub room : area p ≤ length out

-- what a step numbered k asks, where the erosion before is 0 within d of the border
pub record ScoreStep (p : Head) (k d : ℕ) (prev cur out : List ℕ) : Type 0 where
  pub some : 1 ≤ k
  pub number : k < step_numbers
  pub buffers : ScoreBuffers p prev cur out
  pub margin : Margin p d prev

-- a score with one residue more
abbrev pub joined_score : Score → ℕ → ℕ → ℕ
joined_score Largest a r = max a r
joined_score Sum a r = min 255 (a + r)

-- the number at place n of row y, with the residue of two maps joined to it
abbrev pub scored_at : Head → Score → List ℕ → List ℕ → List ℕ → ℕ → ℕ → ℕ
scored_at p s prev cur old y n =
    joined_score s (get_or old n 0) (get_or prev n 0 - highest_near p.kind (at p cur) (cell (n - y * p.width) y))

-- the score with the residue of two maps joined at each cell of the rows from one up to another; all else is as it was
pub record Scored (p : Head) (s : Score) (prev cur : List ℕ) (from to : ℕ) (old new : List ℕ) : Type 0 where
  pub same : length new ≡ length old
  pub inside : (x y : ℕ) → x < p.width → from ≤ y → y < to
      → get_or new (y * p.width + x) 0 ≡ joined_score s (get_or old (y * p.width + x) 0)
      (get_or prev (y * p.width + x) 0 - highest_near p.kind (at p cur) (cell x y))
  pub under : (n : ℕ) → n < from * p.width → get_or new n 0 ≡ get_or old n 0
  pub over : (n : ℕ) → to * p.width ≤ n → get_or new n 0 ≡ get_or old n 0
