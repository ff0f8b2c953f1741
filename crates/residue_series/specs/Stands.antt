-- Serves proofs: where a series of residues stands, what a run asks of its two buffers, and what it leaves in them.
use Rattle.std.specs.Prelude.{◌≡◌, Bool, true, false, cond, List, [], ◌++◌, ℕ, ◌+◌, ◌-◌, ◌*◌, ◌%◌, ◌≤◌, ◌<◌, length, get_or}
use Rattle.geometry.specs.declared.Head.{Head}
use Rattle.geometry.specs.declared.Plunge.{Plunge}
use Rattle.geometry.specs.Lists.{gather}
use Rattle.geometry.specs.Plane.{Cell, cell}
use Rattle.geometry.specs.Plate.{area}
use Rattle.theory.specs.Erosion.{erosion}
use Rattle.theory.specs.Climbed.{Bare}
use Rattle.theory.specs.Listing.{listing}
use Rattle.refusal.specs.Refusals.{largest_erosion}
use Rattle.refusal.specs.Sides.{Sides}
use Rattle.buffers.specs.Fill.{PlateOnly}
use Rattle.buffers.specs.Margin.{Margin}
use Rattle.erosion_series.specs.Pairs.{HoldsErosion, Last}
use Rattle.residue_sweep.specs.declared.Places.{Places}
use Rattle.residue_sweep.specs.declared.Swept.{Swept}
use Rattle.residue_marks.specs.Marks.{mark_places}
use Rattle.residue_sweep.specs.Sweeps.{low_near, high_near, SweepBuffers, Sweep}
use Rattle.residue_series.specs.declared.Stand.{Stand}
use Rattle.residue_series.specs.declared.Run.{Run}
use Rattle.residue_series.specs.Plunges.{place_listed, so_far, plunge_at, marks_to}

-- residue k is due: rung k - 1 is not bare. A climb that takes no others ends "once a rung has no depth above 0" (document 02, N3)
abbrev pub Due : Head → List ℕ → ℕ → Type 0
Due p m k = Bare p m (k - 1) → ⊥

-- r is no lower than any of the first n numbers of a map, and 0 where all of them are
pub record Tops (n : ℕ) (m : List ℕ) (r : ℕ) : Type 0 where
  pub over : (i : ℕ) → i < n → get_or m i 0 ≤ r
  pub bare : ((i : ℕ) → i < n → get_or m i 0 ≡ 0) → r ≡ 0

-- the one buffer holds erosion k, no number of which is above `here`; the other holds erosion k + 1 before place n, none above `top`, and
-- erosion k - 1 from there on. `here` and `top` are 0 where these are bare
pub record Midway (p : Head) (m : List ℕ) (k here n top : ℕ) (prev cur : List ℕ) : Type 0 where
  pub held : HoldsErosion p m k cur
  pub low : (c : Cell) → erosion p m k c ≤ here
  pub long : area p ≤ length prev
  pub ahead : (x y : ℕ) → x < p.width → y < p.height → y * p.width + x < n → get_or prev (y * p.width + x) 0 ≡ erosion p m (k + 1) (cell x y)
  pub behind : (x y : ℕ) → x < p.width → y < p.height → n ≤ y * p.width + x → get_or prev (y * p.width + x) 0 ≡ erosion p m (k - 1) (cell x y)
  pub under : (x y : ℕ) → x < p.width → y < p.height → y * p.width + x < n → get_or prev (y * p.width + x) 0 ≤ top
  pub bare-here : Bare p m k → here ≡ 0
  pub bare-top : ((x y : ℕ) → x < p.width → y < p.height → y * p.width + x < n → get_or prev (y * p.width + x) 0 ≡ 0) → top ≡ 0

-- an even erosion stands in the first buffer, an odd one in the second
pub record PairMidway (p : Head) (m : List ℕ) (k here n top : ℕ) (a b : List ℕ) : Type 0 where
  pub even : k % 2 ≡ 0 → Midway p m k here n top b a
  pub odd : k % 2 ≡ 1 → Midway p m k here n top a b

-- a place of residue k, one of those up to a limit, behind its first k - 1 rows and before its last
pub record Level (p : Head) (limit k n : ℕ) : Type 0 where
  pub sides : Sides p
  pub high : limit ≤ largest_erosion
  pub some : 1 ≤ k
  pub last : k ≤ limit
  pub first : (k - 1) * p.width ≤ n
  pub place : n + (k - 1) * p.width < area p

-- a series stands at a place of a residue that is due
pub record Standing (p : Head) (m : List ℕ) (s : Stand) (a b : List ℕ) : Type 0 where
  pub level : Level p s.limit s.number s.place
  pub due : Due p m s.number
  pub pair : PairMidway p m s.number s.here s.place s.top a b

-- the listing up to where a series stands
abbrev pub listed_to : Head → List ℕ → Stand → List Plunge
listed_to p m s = cond s.more (so_far p m s.number s.place) (listing p s.limit m)

-- falls with every run: the residues that are left, each of which has no more than some places, less those that are behind
abbrev pub left_at : ℕ → Head → ℕ → ℕ → ℕ → ℕ
left_at places p limit k n = (limit + 1 - k) * (places + 1) - (n - (k - 1) * p.width)

abbrev pub left : ℕ → Head → Stand → ℕ
left places p s = cond s.more (left_at places p s.limit s.number s.place) 0

-- r is the end of a run from place n on
pub record RunEnd (p : Head) (k n r : ℕ) : Type 0 where
  pub some : n < r
  pub within : r + (k - 1) * p.width ≤ area p
  pub short : r < n + mark_places

-- what a sweep of the pair asks and leaves
pub record PairToSweep (p : Head) (k : ℕ) (s : Places) (a b marks : List ℕ) : Type 0 where
  pub even : k % 2 ≡ 0 → SweepBuffers p s b a marks × Margin p 1 a
  pub odd : k % 2 ≡ 1 → SweepBuffers p s a b marks × Margin p 1 b

abbrev pub SweepOf : Head → Places → List ℕ → List ℕ → List ℕ → List ℕ → List ℕ → Swept → Type 0
SweepOf p s prev prev' cur marks marks' r =
    Sweep (low_near p cur) (high_near p cur) s.start s.number prev prev' marks marks' r.deepest r.top

pub record PairSweep (p : Head) (k : ℕ) (s : Places) (a a' b b' marks marks' : List ℕ) (r : Swept) : Type 0 where
  pub even : k % 2 ≡ 0 → (a' ≡ a) × SweepOf p s b b' a marks marks' r
  pub odd : k % 2 ≡ 1 → (b' ≡ b) × SweepOf p s a a' b marks marks' r

-- whether the residue where a series stands is its last ("later rungs can give no plunge")
pub record LastResidue (p : Head) (s : Stand) (r : Bool) : Type 0 where
  pub ends : r ≡ true → (m : List ℕ) (n top : ℕ) (a b : List ℕ) → PairMidway p m s.number s.here n top a b
      → Last p m s.limit s.number
  pub goes_on : r ≡ false → (s.number < s.limit) × (s.number * p.width + s.number * p.width < area p) × (s.here ≡ 0 → ⊥)

-- r is where a series stands that has swept residue k up to place n
pub record Advanced (p : Head) (m : List ℕ) (limit k n : ℕ) (a b : List ℕ) (r : Stand) : Type 0 where
  pub stands : r.more ≡ true → Standing p m r a b
  pub ended : r.more ≡ false → (r.number ≡ k) × Last p m limit k
  pub listed : n + (k - 1) * p.width ≤ area p → listed_to p m r ≡ so_far p m k n
  pub same : r.limit ≡ limit
  pub less : (places : ℕ) → area p ≤ places → n ≤ area p → left places p r ≤ left_at places p limit k n

-- what a series asks before its first run: a limit, a relief that is not bare, and a buffer for its first erosion
pub record Startable (p : Head) (limit : ℕ) (m b : List ℕ) : Type 0 where
  pub sides : Sides p
  pub some : 1 ≤ limit
  pub high : limit ≤ largest_erosion
  pub relief : area p ≤ length m
  pub deep : Bare p m 0 → ⊥
  pub room : area p ≤ length b

-- a series before its first run
pub record Started (p : Head) (limit : ℕ) (m b b' : List ℕ) (r : Stand) : Type 0 where
  pub first : (r.limit ≡ limit) × (r.number ≡ 1) × (r.place ≡ 0) × (r.more ≡ true)
  pub stands : Standing p m r m b'
  pub listed : listed_to p m r ≡ []
  pub kept : PlateOnly p b b'

-- a series that stands at a place of some relief, and an array for the marks of the next run
pub record Underway (p : Head) (s : Stand) (a b marks : List ℕ) : Type 0 where
  pub relief : List ℕ
  pub stands : Standing p relief s a b
  pub size : length marks ≡ mark_places

-- the plunges of a run of residue k
abbrev pub run_listed : Head → List ℕ → ℕ → Places → List Plunge
run_listed p m k s = gather s.number s.start (place_listed p m (k - 1))

-- a run of the residues of relief m: its marks are its plunges, and the series stands after them
pub record TakenOf (p : Head) (m : List ℕ) (s : Stand) (a' b' marks' : List ℕ) (r : Run) : Type 0 where
  pub stands : r.next.more ≡ true → Standing p m r.next a' b'
  pub ended : r.next.more ≡ false → (r.next.number ≡ s.number) × Last p m s.limit s.number
  pub marked : marks_to r.places.number (plunge_at p.width (s.number - 1)) r.places.start marks' ≡ run_listed p m s.number r.places
  pub none : r.deepest ≡ 0 → run_listed p m s.number r.places ≡ []
  pub listed : listed_to p m r.next ≡ so_far p m s.number s.place ++ run_listed p m s.number r.places

pub record Taken (p : Head) (s : Stand) (a a' b b' marks' : List ℕ) (r : Run) : Type 0 where
  pub first : PlateOnly p a a'
  pub second : PlateOnly p b b'
  pub size : length marks' ≡ mark_places
  pub within : r.places.start + r.places.number ≤ area p
  pub short : r.places.number < mark_places
  pub same : r.next.limit ≡ s.limit
  pub less : (places : ℕ) → area p ≤ places → left places p r.next < left_at places p s.limit s.number s.place
  pub step : (m : List ℕ) → Standing p m s a b → TakenOf p m s a' b' marks' r
