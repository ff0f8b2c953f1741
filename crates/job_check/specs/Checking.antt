-- To be believed: the tidy check: what it answers, and what its buffers hold at exit (document 01, "Refusals in their order").
use Rattle.std.specs.Prelude.{◌≡◌, Bool, false, cond, not, List, [], ◌∷◌, ◌++◌, ℕ, eqb, length}
use Rattle.geometry.specs.Lists.{common}
use Rattle.geometry.specs.Plate.{area}
use Rattle.refusal.specs.Refusals.{trial, first_met, Worked}
use Rattle.reading.specs.Reading.{file_trials, head_in}
use Rattle.jobs.specs.Calls.{tidied, work_trial}
use Rattle.refusal.specs.Refusals.{Verdict}

-- two files are equal, in length and in every byte
abbrev pub alike : List ℕ → List ℕ → Bool
alike f g = cond (eqb (length f) (length g)) (eqb (common f g) (length f)) false

-- "12: tidy check: file is not tidy", with "the first byte unlike the tidied file"
abbrev pub check_verdict : List ℕ → List ℕ → List ℕ → List ℕ → Verdict
check_verdict f a b c =
    first_met (file_trials f ++ (work_trial f a b c ∷ trial (not (alike f (tidied f))) 12 (common f (tidied f)) ∷ []))

pub record CheckCall (f a a' b b' c c' : List ℕ) (r : Verdict) : Type 0 where
  pub answer : r ≡ check_verdict f a b c
  pub first : Worked (check_verdict f a b c) (area (head_in f)) a a'
  pub second : Worked (check_verdict f a b c) (area (head_in f)) b b'
  pub third : Worked (check_verdict f a b c) (area (head_in f)) c c'
