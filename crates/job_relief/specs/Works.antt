-- Serves proofs: what is asked of the work buffers, and what drawing leaves of one.
use Rattle.std.specs.Prelude.{◌≡◌, List, ℕ, ◌≤◌, length, drop}
use Rattle.geometry.specs.Plate.{area}
use Rattle.reading.specs.declared.Job.{Job}
use Rattle.reading.specs.Reading.{head_in}
use Rattle.reading.specs.Steps.{JobOf}

-- all of a work buffer but the plate's bytes stays
pub record WorkKept (f old new : List ℕ) : Type 0 where
  pub same : length new ≡ length old
  pub surplus : drop (area (head_in f)) new ≡ drop (area (head_in f)) old

-- a readable file, and work buffers that hold its plate
pub record Workable (f : List ℕ) (j : Job) (a b c : List ℕ) : Type 0 where
  pub job : JobOf f j
  pub first : area (head_in f) ≤ length a
  pub second : area (head_in f) ≤ length b
  pub third : area (head_in f) ≤ length c
