-- Serves proofs: what a listing asks of its plate and its buffers, and what sending it leaves.
use Rattle.std.specs.Prelude.{◌≡◌, true, List, ℕ, ◌≤◌, length}
use Rattle.geometry.specs.declared.Head.{Head}
use Rattle.geometry.specs.Plate.{area}
use Rattle.geometry.specs.Sizes.{size_of}
use Rattle.theory.specs.Climbed.{erosion_count}
use Rattle.theory.specs.Listing.{listing}
use Rattle.refusal.specs.Refusals.{largest_erosion}
use Rattle.refusal.specs.Sides.{Sides}
use Rattle.buffers.specs.Fill.{PlateOnly}
use Rattle.fields.specs.Fields.{place, plunge_fields}
use Rattle.listing_pass.specs.declared.Pass.{Pass}
use Rattle.listing_pass.specs.Sent.{Sent}
use Rattle.listing_plunges.specs.declared.SentListing.{SentListing}

-- a plate of fitting sides, its relief, and two work buffers
pub record Listable (p : Head) (m a b : List ℕ) : Type 0 where
  pub sides : Sides p
  pub relief : area p ≤ length m
  pub first : area p ≤ length a
  pub second : area p ≤ length b

-- the plunges of a relief's listing, sent from behind the head on; if all were, the erosions that the relief takes are counted
pub record ListingSent (pass : Pass) (p : Head) (m file old new a a' b b' : List ℕ) (r : SentListing) : Type 0 where
  pub sent : Sent pass file (place p 0) (plunge_fields (size_of p) (listing p largest_erosion m)) old new r.progress
  pub counted : r.progress.like ≡ true → r.erosions ≡ erosion_count p m
  pub first : PlateOnly p a a'
  pub second : PlateOnly p b b'
