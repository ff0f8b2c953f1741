-- To be believed: kinds as bytes, reaches and clearances (document 01, "Plate, kinds and distance" and "A form for each place").
use Rattle.std.specs.Prelude.{cond, ℕ, zero, suc, leb, eqb, Option, Some, None}
use Rattle.geometry.specs.declared.Kind.{Kind}
use Rattle.geometry.specs.declared.Kind.TheVariants.{Diamond, Square}
use Rattle.geometry.specs.declared.Clearance.{Clearance}
use Rattle.geometry.specs.declared.Reach.{Reach}

-- "Kind 4 is the diamond", "Kind 8 is the square"
abbrev pub kind_byte : Kind → ℕ
kind_byte Diamond = 4
kind_byte Square = 8

-- the kind that a byte names: "kind not 4 or 8" is none
abbrev pub kind_of : ℕ → Option Kind
kind_of b = cond (eqb b 4) (Some Diamond) (cond (eqb b 8) (Some Square) None)

-- "A reach is a ball's radius, 0 to 119"; "119 belongs to the reach as its named largest value."
abbrev pub largest_reach : ℕ
largest_reach = 119

-- the reach that a number is, if it is one
abbrev pub reach_of : ℕ → Option Reach
reach_of n = cond (leb n largest_reach) (Some (record { 0 = n })) None

abbrev one_less : ℕ → Option Reach
one_less zero = None
one_less (suc n) = reach_of n

-- "A clearance above 0 is a reach plus one"; of clearance 0 there is no reach
abbrev pub reach_of_clearance : Clearance → Option Reach
reach_of_clearance c = one_less c.0
