-- Serves proofs: what the listing keeps while it counts, and what it leaves in its output.
use Rattle.std.specs.Prelude.{◌≡◌, List, ℕ, ◌-◌, ◌≤◌, length, take, drop, Result}
use Rattle.geometry.specs.declared.Head.{Head}
use Rattle.geometry.specs.declared.Plunge.{Plunge}
use Rattle.geometry.specs.Sizes.{size_of}
use Rattle.theory.specs.Climbed.{erosion_count}
use Rattle.theory.specs.Listing.{listing}
use Rattle.refusal.specs.Refusals.{first_met, largest_erosion, written}
use Rattle.fields.specs.Fields.{plunge_fields, file_length, encoded, place}
use Rattle.listing.specs.Answers.{room_trials, list_answer}
use Rattle.listing_plunges.specs.Listable.{Listable}
use Rattle.refusal.specs.Refusals.{Verdict}
use Rattle.listing.specs.declared.Extent.{Extent}
use Rattle.refusal.specs.declared.Refusal.{Refusal}

-- whether the file of a relief's listing has room in an output
abbrev pub room_verdict : Head → List ℕ → List ℕ → Verdict
room_verdict p m out = first_met (room_trials (file_length p (length (listing p largest_erosion m))) out)

-- the bytes of a file that the first pass can keep
abbrev pub stage_length : ℕ
stage_length = 32768

-- a buffer has the fields of some plunges from behind the head on, if they end where it still has room
abbrev pub KeptPlunges : Head → List ℕ → ℕ → List Plunge → Type 0
KeptPlunges p kept end qs = end ≤ stage_length → take (end - place p 0) (drop (place p 0) kept) ≡ plunge_fields (size_of p) qs

-- the listing of a relief, answered and written to an output
pub record ListedInto (p : Head) (m old new : List ℕ) (r : Result Extent Refusal) : Type 0 where
  pub answer : r ≡ list_answer (room_verdict p m old) p (listing p largest_erosion m) (erosion_count p m)
  pub bytes : new ≡ written (room_verdict p m old) (encoded p (listing p largest_erosion m)) old

-- what writing the plunges asks: those that were kept end where the count ended, and the output has room for all
pub record Puttable (p : Head) (m kept : List ℕ) (end : ℕ) (out a b : List ℕ) : Type 0 where
  pub listable : Listable p m a b
  pub stage : length kept ≡ stage_length
  pub counted : end ≡ place p (length (listing p largest_erosion m))
  pub room : end ≤ length out
  pub plunges : KeptPlunges p kept end (listing p largest_erosion m)
