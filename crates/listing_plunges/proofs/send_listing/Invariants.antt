-- `send_listing` sends run after run: the invariant is where the climb is, and that what it has listed is sent.
use mathlib.Core.Path.{◌≡◌}
use lib.ListN.{length}
use Rattle.residue_marks.specs.Marks.{mark_places}
use Rattle.climb.specs.Climbs.{left_of}
use Rattle.listing_plunges.proofs.Listings.{Listed}
use Rattle.listing_plunges.proofs.send_listing.Given as goal

abbrev pub invariant-loop-climb : goal.invariant-loop-climb
invariant-loop-climb l =
    (length l.marks ≡ mark_places) × (length l.noted ≡ mark_places) × Listed l.sending.pass l.file l.initial.climb.plate l.relief l.initial.out l.initial.a l.initial.b l.climb l.out l.a l.b l.place

abbrev pub decreases-loop-climb : goal.decreases-loop-climb
decreases-loop-climb l = left_of l.initial.climb.plate l.climb
