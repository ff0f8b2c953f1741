-- Serves proofs: what making and sending the plunges of a run ask.
use Rattle.std.specs.Prelude.{◌≡◌, List, ℕ, ◌+◌, ◌*◌, ◌≤◌, ◌<◌, length, get_or}
use Rattle.geometry.specs.declared.Plunge.{Plunge}
use Rattle.geometry.specs.Plate.{area}
use Rattle.refusal.specs.Refusals.{largest_side, largest_erosion}
use Rattle.fields.specs.Fields.{plunge_bytes, plunge_fields}
use Rattle.fields.specs.Lengths.{IsLength}
use Rattle.residue_marks.specs.Marks.{mark_places}
use Rattle.climb.specs.declared.Found.{Found}
use Rattle.climb.specs.Climbs.{plunge_of, found_plunges, FoundMarks}
use Rattle.listing_plunges.specs.declared.Sending.{Sending}
use Rattle.listing_pass.specs.Sent.{Room}

-- a place of a run's region, which lies on a plate of fitting sides
pub record PlaceOf (f : Found) (n : ℕ) : Type 0 where
  pub wide : 1 ≤ f.region.head.width
  pub across : f.region.column + f.region.head.width ≤ largest_side
  pub down : f.region.row + f.region.head.height ≤ largest_side
  pub within : n < area f.region.head

-- a plunge of a plate of fitting sides
pub record Bounded (q : Plunge) : Type 0 where
  pub column : q.column < largest_side
  pub row : q.row < largest_side
  pub reach : q.reach.0 < largest_erosion

-- the plunge of place i of a run, by an array of its marks
abbrev pub noted_plunge : Found → List ℕ → ℕ → Plunge
noted_plunge f marks i = plunge_of f (f.places.start + i) (get_or marks i 0)

-- one of the places of a run that are noted in an array
pub record NotedAt (f : Found) (marks noted : List ℕ) (j : ℕ) : Type 0 where
  pub marked : FoundMarks f marks
  pub size : length noted ≡ mark_places
  pub here : j < mark_places
  pub below : get_or noted j 0 < f.places.number

-- what sending them asks: a place that leaves room for all of them, in the output too where they are written
pub record ToSend (s : Sending) (f : Found) (marks : List ℕ) (at : ℕ) (out : List ℕ) : Type 0 where
  pub marked : FoundMarks f marks
  pub place : IsLength (at + plunge_bytes s.size * mark_places)
  pub room : Room s.pass (at + length (plunge_fields s.size (found_plunges f marks))) out
