-- To be believed: demand 3, the canonical-form theorem's statement, about what the tidying call answers and leaves, by the records that its contract cites.
use Rattle.std.specs.Prelude.{◌≡◌, ◌↔◌, ℕ, length, take, Ok, Err, Result}
use mathlib.Core.List.{List, [], ◌∷◌, Memᴰ}
use Rattle.geometry.specs.declared.Head.{Head}
use Rattle.geometry.specs.declared.Plunge.{Plunge}
use Rattle.geometry.specs.Plane.{Cell}
use Rattle.geometry.specs.Plate.{On, at}
use Rattle.geometry.specs.Plunges.{Inside}
use Rattle.theory.specs.Listing.{Fits, Maximal, Rising, listing}
use Rattle.refusal.specs.Refusals.{Trial, first_met, largest_erosion}
use Rattle.reading.specs.Reading.{IsReadable, head_in, plunges_in}
use Rattle.jobs.specs.Calls.{relief, tidied_plunges, TidyCall, work_trial, room_for}
use Rattle.job_check.specs.Checking.{CheckCall}
use Rattle.refusal.specs.Refusals.{Verdict}
use Rattle.listing.specs.declared.Extent.{Extent}
use Rattle.refusal.specs.declared.Refusal.{Refusal}

-- none of some trials is met
abbrev pub NoneMet : List Trial → Type 0
NoneMet ts = first_met ts ≡ Ok tt

-- a tidying of f with buffers long enough: what the call was given, answered and left. A list "is accepted, or readable, when reading refuses
-- nothing in it; buffers are long enough where neither 4 nor 5 is met"
pub record Tidying (f : List ℕ) : Type 0 where
  pub out : List ℕ
  pub out' : List ℕ
  pub a : List ℕ
  pub a' : List ℕ
  pub b : List ℕ
  pub b' : List ℕ
  pub c : List ℕ
  pub c' : List ℕ
  pub answer : Result Extent Refusal
  pub call : TidyCall f out out' a a' b b' c c' answer
  pub readable : IsReadable f
  pub works : NoneMet (work_trial f a b c ∷ [])
  pub room : NoneMet (room_for (head_in f) (tidied_plunges f) out)

-- how many bytes a list in an answer has; a refusal has none
abbrev pub bytes_of : Result Extent Refusal → ℕ
bytes_of (Ok e) = e.bytes
bytes_of (Err r) = 0

-- "The tidied list is the bytes of the answer alone, from head to end field"
abbrev pub file : {f : List ℕ} → Tidying f → List ℕ
file t = take (bytes_of t.answer) t.out'

-- a check of f with work buffers long enough
pub record Checking (f : List ℕ) : Type 0 where
  pub a : List ℕ
  pub a' : List ℕ
  pub b : List ℕ
  pub b' : List ℕ
  pub c : List ℕ
  pub c' : List ℕ
  pub answer : Verdict
  pub call : CheckCall f a a' b b' c c' answer
  pub works : NoneMet (work_trial f a b c ∷ [])

-- the same kind and plate size: "Plate size is width and height."
pub record SamePlate (p o : Head) : Type 0 where
  pub kinds : p.kind ≡ o.kind
  pub widths : p.width ≡ o.width
  pub heights : p.height ≡ o.height

-- "Two reliefs of one plate size are the same when every cell of the plate has the same depth in both."
abbrev pub SameRelief : List ℕ → List ℕ → Type 0
SameRelief f g = (c : Cell) → On (head_in f) c → at (head_in f) (relief f) c ≡ at (head_in g) (relief g) c

-- what a tidied file F of f is: parts 2 to 6 of the demand
pub record Canonical (f F : List ℕ) : Type 0 where
  -- 2: it holds exactly the listing of the relief that f draws, every plunge once and in document 01's order, under f's own head
  pub head : head_in F ≡ head_in f
  pub plunges : plunges_in F ≡ listing (head_in f) largest_erosion (relief f)
  pub order : Rising (plunges_in F)
  -- 3: it is accepted by reading, and draws that relief again at every cell
  pub readable : IsReadable F
  pub draws : (c : Cell) → at (head_in F) (relief F) c ≡ at (head_in f) (relief f) c
  -- 4: a plunge stands in it exactly when it fits under that relief and lies inside no other plunge that fits
  pub maximal : (q : Plunge) → Memᴰ q (plunges_in F) ↔ Maximal (head_in f) (relief f) q
  -- 5: whatever plunge fits there, from the original or not, is listed or lies inside a listed one (a listed one lies inside itself);
  -- and each of the original fits
  pub covered : (q : Plunge) → Fits (head_in f) (relief f) q → (o : Plunge) × Memᴰ o (plunges_in F) × Inside (head_in f).kind q o
  pub original : (q : Plunge) → Memᴰ q (plunges_in f) → Fits (head_in f) (relief f) q
  -- 6: tidied again with buffers long enough, it comes back equal in length and in every byte;
  -- and the tidy check accepts a readable file exactly when tidying returns its bytes
  pub again : (t : Tidying F) → file t ≡ F
  pub checked : (s : Checking f) → (s.answer ≡ Ok tt) ↔ (F ≡ f)

-- an answer with a list: how long it is, and how many plunges it has; the rungs climbed for it are no part of it
abbrev pub Lists : Result Extent Refusal → List ℕ → Type 0
Lists r F = (rungs : ℕ) × (r ≡ Ok (record { bytes = length F; plunges = length (plunges_in F); erosions = rungs }))

-- the whole demand, for two accepted files, each tidied with buffers long enough
pub record CanonicalForm {f g : List ℕ} (s : Tidying f) (t : Tidying g) : Type 0 where
  -- both calls answer with a list, and it is the whole of the tidied file
  pub lists : Lists s.answer (file s) × Lists t.answer (file t)
  -- 1: the tidied files are equal, in length and in every byte, exactly when f and g have the same kind and plate size and draw the same relief
  pub equal : (file s ≡ file t) ↔ (SamePlate (head_in f) (head_in g) × SameRelief f g)
  pub left : Canonical f (file s)
  pub right : Canonical g (file t)

-- the demand speaks of every accepted file: it is tidied in any buffers that are long enough, and there are such buffers; for the check too
pub record Tidiable (f : List ℕ) : Type 0 where
  pub within : (out a b c : List ℕ) → NoneMet (work_trial f a b c ∷ []) → NoneMet (room_for (head_in f) (tidied_plunges f) out)
      → (t : Tidying f) × (t.out ≡ out) × (t.a ≡ a) × (t.b ≡ b) × (t.c ≡ c)
  pub tidying : Tidying f
  pub checking : Checking f
