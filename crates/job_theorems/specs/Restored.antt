-- To be believed: demand 2, from the list back to the relief: about what the calls list and draw answer and leave, by the records that their contracts cite.
use Rattle.std.specs.Prelude.{◌≡◌, List, [], ◌∷◌, ℕ, length, take, drop, Ok, Result}
use Rattle.geometry.specs.Plate.{area}
use Rattle.refusal.specs.Refusals.{head_of}
use Rattle.reading.specs.Reading.{IsReadable}
use Rattle.jobs.specs.Calls.{Drawn, plate_trial, ListCall, listed, list_trials, room_for}
use Rattle.job_theorems.specs.Canonical.{NoneMet, bytes_of, Lists}
use Rattle.refusal.specs.Refusals.{Verdict}
use Rattle.listing.specs.declared.Extent.{Extent}
use Rattle.refusal.specs.declared.Refusal.{Refusal}

-- a listing of a relief with buffers long enough: none of 1, 2, 4 and 5 is met
pub record Listing (m : List ℕ) (k w h : ℕ) : Type 0 where
  pub out : List ℕ
  pub out' : List ℕ
  pub a : List ℕ
  pub a' : List ℕ
  pub b : List ℕ
  pub b' : List ℕ
  pub answer : Result Extent Refusal
  pub call : ListCall m k w h out out' a a' b b' answer
  pub right : NoneMet (list_trials m k w h a b)
  pub room : NoneMet (room_for (head_of k w h) (listed m k w h) out)

-- the bytes of the answer alone
abbrev pub listed_file : {m : List ℕ} {k w h : ℕ} → Listing m k w h → List ℕ
listed_file s = take (bytes_of s.answer) s.out'

-- a drawing of f into a map long enough: 4 is not met
pub record Drawing (f : List ℕ) : Type 0 where
  pub map : List ℕ
  pub map' : List ℕ
  pub answer : Verdict
  pub call : Drawn f map map' answer
  pub long : NoneMet (plate_trial f (length map ∷ []) ∷ [])

-- what was listed is a readable file, and drawing it restores every byte of the relief
pub record Restored {m : List ℕ} {k w h : ℕ} (s : Listing m k w h) (d : Drawing (listed_file s)) : Type 0 where
  pub lists : Lists s.answer (listed_file s)
  pub readable : IsReadable (listed_file s)
  pub accepted : d.answer ≡ Ok tt
  pub bytes : take (area (head_of k w h)) d.map' ≡ take (area (head_of k w h)) m
  pub rest : drop (area (head_of k w h)) d.map' ≡ drop (area (head_of k w h)) d.map
