-- To be believed: a job's figures by the relief that it draws, and what is left of the work buffers.
use Rattle.std.specs.Prelude.{◌≡◌, Bool, List, ℕ, drop}
use Rattle.geometry.specs.Plate.{area}
use Rattle.theory.specs.Erosion.{volume}
use Rattle.reading.specs.Reading.{head_in}
use Rattle.jobs.specs.Calls.{relief, tidied}
use Rattle.job_check.specs.Checking.{alike}

-- "Volume is the sum of all depths", of the relief that a file draws
abbrev pub volume_in : List ℕ → ℕ
volume_in f = volume (head_in f) (relief f)

-- "exactly when tidying would return its bytes"
abbrev pub is_tidy : List ℕ → Bool
is_tidy f = alike f (tidied f)

-- the bytes of work buffers past the file's plate stay
pub record WorkedOn (f a a' b b' c c' : List ℕ) : Type 0 where
  pub first : drop (area (head_in f)) a' ≡ drop (area (head_in f)) a
  pub second : drop (area (head_in f)) b' ≡ drop (area (head_in f)) b
  pub third : drop (area (head_in f)) c' ≡ drop (area (head_in f)) c
