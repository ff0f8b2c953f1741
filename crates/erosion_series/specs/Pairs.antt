-- Serves proofs: a series of erosions in two buffers, which hold one erosion and the one before, turn by turn.
use Rattle.std.specs.Prelude.{◌≡◌, ◌⊎◌, List, ℕ, ◌-◌, ◌%◌, ◌≤◌, ◌<◌, length}
use Rattle.geometry.specs.declared.Head.{Head}
use Rattle.geometry.specs.Plane.{Cell}
use Rattle.geometry.specs.Plate.{area, at}
use Rattle.theory.specs.Erosion.{erosion}
use Rattle.theory.specs.Climbed.{Bare}
use Rattle.residue_scores.specs.declared.Score.{Score}
use Rattle.buffers.specs.Margin.{Margin}
use Rattle.erosion_step.specs.Steps.{step_numbers, Stepped}
use Rattle.residue_scores.specs.Residues.{Scored}
use Rattle.buffers.specs.Fill.{Mapped, PlateOnly}
use Rattle.residue_scores.specs.Scores.{score_of}

-- the buffer holds erosion k of a relief
pub record HoldsErosion (p : Head) (m : List ℕ) (k : ℕ) (s : List ℕ) : Type 0 where
  pub long : area p ≤ length s
  pub holds : (c : Cell) → at p s c ≡ erosion p m k c

-- the one buffer holds erosion k, the other, from 1 on, erosion k - 1
pub record Turn (p : Head) (m : List ℕ) (k : ℕ) (cur other : List ℕ) : Type 0 where
  pub held : HoldsErosion p m k cur
  pub long : area p ≤ length other
  pub behind : 1 ≤ k → HoldsErosion p m (k - 1) other

-- after an even number of steps the first buffer has the erosion, after an odd number the second
pub record Pair (p : Head) (m : List ℕ) (k : ℕ) (a b : List ℕ) : Type 0 where
  pub even : k % 2 ≡ 0 → Turn p m k a b
  pub odd : k % 2 ≡ 1 → Turn p m k b a

-- what the step from erosion k asks of the pair
pub record PairToStep (p : Head) (k : ℕ) (a b : List ℕ) : Type 0 where
  pub number : k < step_numbers
  pub wide : 1 ≤ p.width
  pub first : area p ≤ length a
  pub second : area p ≤ length b
  pub even : k % 2 ≡ 0 → Margin p k a × Margin p (k - 1) b
  pub odd : k % 2 ≡ 1 → Margin p k b × Margin p (k - 1) a

-- what residue k asks of the pair and of a score
pub record PairToScore (p : Head) (k : ℕ) (a b out : List ℕ) : Type 0 where
  pub some : 1 ≤ k
  pub number : k < step_numbers
  pub first : area p ≤ length a
  pub second : area p ≤ length b
  pub room : area p ≤ length out
  pub even : k % 2 ≡ 0 → Margin p (k - 1) b
  pub odd : k % 2 ≡ 1 → Margin p (k - 1) a

-- what a series asks: a relief, and two buffers to erode it in; what a map of it asks
pub record SeriesBuffers (p : Head) (relief a b : List ℕ) : Type 0 where
  pub wide : 1 ≤ p.width
  pub read : area p ≤ length relief
  pub first : area p ≤ length a
  pub second : area p ≤ length b

pub record MapBuffers (p : Head) (relief out a b : List ℕ) : Type 0 where
  pub series : SeriesBuffers p relief a b
  pub room : area p ≤ length out

-- one step of the pair: the buffer that has the erosion stays, the other has the next
pub record PairStep (p : Head) (k : ℕ) (a b a' b' : List ℕ) (r : ℕ) : Type 0 where
  pub even : k % 2 ≡ 0 → (a' ≡ a) × Stepped p a b b' r
  pub odd : k % 2 ≡ 1 → (b' ≡ b) × Stepped p b a a' r

-- residue k of the pair's erosions k - 1 and k, joined to a score
pub record PairScore (p : Head) (s : Score) (k : ℕ) (a b old new : List ℕ) : Type 0 where
  pub even : k % 2 ≡ 0 → Scored p s b a 0 p.height old new
  pub odd : k % 2 ≡ 1 → Scored p s a b 0 p.height old new

-- erosion k is a series' last: that of its limit, or a bare one
abbrev pub Last : Head → List ℕ → ℕ → ℕ → Type 0
Last p m limit k = (k ≡ limit) ⊎ Bare p m k

-- a series to a number ends there, or where an erosion is 0 everywhere
pub record ErodedTo (p : Head) (m : List ℕ) (number : ℕ) (a b a' b' : List ℕ) (k : ℕ) : Type 0 where
  pub pair : Pair p m k a' b'
  pub first : PlateOnly p a a'
  pub second : PlateOnly p b b'
  pub upto : k ≤ number
  pub some : 1 ≤ number → 1 ≤ k
  pub ended : Last p m number k

-- a map of a series: what the output holds, and two buffers of which only the plate's bytes were used
pub record MapFilled (p : Head) (f : Cell → ℕ) (out out' a a' b b' : List ℕ) : Type 0 where
  pub map : Mapped p f out out'
  pub first : PlateOnly p a a'
  pub second : PlateOnly p b b'

-- a score map over the residues 1 to k
abbrev pub ScoreUpTo : Head → Score → List ℕ → ℕ → List ℕ → List ℕ → Type 0
ScoreUpTo p s m k = Mapped p (score_of s p k m)
