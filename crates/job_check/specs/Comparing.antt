-- Serves proofs: what the comparison of the tidy check is asked and gives.
use Rattle.std.specs.Prelude.{◌≡◌, not, List, [], ◌∷◌, ℕ, ◌≤◌, ◌<◌, length, get_or}
use Rattle.geometry.specs.declared.Head.{Head}
use Rattle.geometry.specs.Lists.{common}
use Rattle.geometry.specs.Plate.{area}
use Rattle.theory.specs.Listing.{listing}
use Rattle.refusal.specs.Refusals.{trial, first_met, largest_erosion}
use Rattle.reading.specs.Reading.{IsReadable, head_in, total}
use Rattle.jobs.specs.Calls.{tidied_plunges, tidied}
use Rattle.job_check.specs.Checking.{alike}
use Rattle.refusal.specs.Refusals.{Verdict}

-- of a readable file whose relief is drawn: its list can be compared with the file's own
pub record Comparable (p : Head) (n : ℕ) (f m a b : List ℕ) : Type 0 where
  pub readable : IsReadable f
  pub bytes : (i : ℕ) → get_or f i 0 < 256
  pub head : p ≡ head_in f
  pub count : n ≡ total f
  pub lists : listing p largest_erosion m ≡ tidied_plunges f
  pub relief : area p ≤ length m
  pub first : area p ≤ length a
  pub second : area p ≤ length b

abbrev pub Compared : List ℕ → Verdict → Type 0
Compared f r = r ≡ first_met (trial (not (alike f (tidied f))) 12 (common f (tidied f)) ∷ [])
