-- Serves proofs: the plunges of a run, where a climb is and what it has listed, and what each step asks and leaves.
use Rattle.std.specs.Prelude.{◌≡◌, true, false, List, [], ◌++◌, map, ℕ, ◌+◌, ◌-◌, ◌*◌, ◌%◌, ◌/◌, ◌≤◌, ◌<◌, length}
use Rattle.geometry.specs.declared.Head.{Head}
use Rattle.geometry.specs.declared.Plunge.{Plunge}
use Rattle.geometry.specs.Lists.{gather}
use Rattle.geometry.specs.Plate.{area}
use Rattle.theory.specs.Climbed.{Bare, erosion_count}
use Rattle.refusal.specs.Refusals.{largest_side, largest_erosion}
use Rattle.refusal.specs.Sides.{Sides}
use Rattle.buffers.specs.Fill.{PlateOnly}
use Rattle.bounding_box.specs.declared.Bounds.{Bounds}
use Rattle.residue_marks.specs.Marks.{mark_places}
use Rattle.residue_series.specs.Plunges.{listed_reach, marks_to}
use Rattle.residue_series.specs.Stands.{Standing, listed_to, left}
use Rattle.climb.specs.declared.Region.{Region}
use Rattle.climb.specs.declared.Climb.{Climb}
use Rattle.climb.specs.declared.Found.{Found}
use Rattle.climb.specs.declared.Step.{Step}
use Rattle.climb.specs.Regions.{moved, RegionOf}

-- ---- the plunges of a run

-- the plunge of place n and depth d: column n % w of row n / w of the run's region
abbrev pub plunge_of : Found → ℕ → ℕ → Plunge
plunge_of f n d =
    record {
      column = n % f.region.head.width + f.region.column;
      row = n / f.region.head.width + f.region.row;
      reach = f.reach;
      depth = d;
    }

-- the plunges of a run, by an array of its marks
abbrev pub found_plunges : Found → List ℕ → List Plunge
found_plunges f marks = marks_to f.places.number (plunge_of f) f.places.start marks

-- a run of places of a plate with fitting sides, of a reach that is listed, and an array of its marks
pub record FoundMarks (f : Found) (marks : List ℕ) : Type 0 where
  pub wide : 1 ≤ f.region.head.width
  pub across : f.region.column + f.region.head.width ≤ largest_side
  pub down : f.region.row + f.region.head.height ≤ largest_side
  pub reach : f.reach.0 < largest_erosion
  pub within : f.places.start + f.places.number ≤ area f.region.head
  pub short : f.places.number < mark_places
  pub size : length marks ≡ mark_places
  pub none : f.deepest ≡ 0 → found_plunges f marks ≡ []

-- ---- where a climb is

-- the region holds its erosion of relief m of plate p
abbrev pub RegionIn : Head → List ℕ → Region → List ℕ → Type 0
RegionIn p m r m' = RegionOf p m r.erosion r.column r.row r.head m'

-- the plunges of reaches below a region's erosion, then those of the region
abbrev pub listed_with : Head → List ℕ → Region → List Plunge → List Plunge
listed_with p m r qs = gather r.erosion 0 (listed_reach p m) ++ map (moved r.erosion r.column r.row) qs

-- the erosions that a climb at its end has taken: the rungs climbed
abbrev pub erosions_taken : Climb → ℕ
erosions_taken c = c.region.erosion + c.stand.number

-- a climb of relief m of plate p that has listed the plunges `done`; at its end it has taken as many erosions as the relief takes
pub record Climbing (p : Head) (m : List ℕ) (c : Climb) (a b : List ℕ) (done : List Plunge) : Type 0 where
  pub plate : c.plate ≡ p
  pub sides : Sides p
  pub relief : List ℕ
  pub region : RegionIn p m c.region relief
  pub limit : c.stand.limit + c.region.erosion ≡ largest_erosion
  pub stands : c.stand.more ≡ true → Standing c.region.head relief c.stand a b
  pub ended : c.stand.more ≡ false → erosions_taken c ≡ erosion_count p m
  pub listed : done ≡ listed_with p m c.region (listed_to c.region.head relief c.stand)

-- falls with every run of a climb on plate p
abbrev pub left_of : Head → Climb → ℕ
left_of p c = left (area p) c.region.head c.stand

-- ---- the part of a region that is not bare, and a climb that begins on it

-- a region of fitting sides that lies on a plate of fitting sides
pub record OnPlates (r : Region) : Type 0 where
  pub sides : Sides r.head
  pub across : r.column + r.head.width ≤ largest_side
  pub down : r.row + r.head.height ≤ largest_side

-- the part of a region in a box of it
abbrev pub part_in : Region → Bounds → Region
part_in r x =
    record {
      head = record { kind = r.head.kind; width = x.width; height = x.height };
      column = r.column + x.column;
      row = r.row + x.row;
      erosion = r.erosion;
    }

-- r' is the part of region r that is not bare: its erosion, which stands in one buffer, stands cropped at the front of another
pub record RegionPart (r : Region) (src a a' : List ℕ) (r' : Region) : Type 0 where
  pub sides : Sides r'.head
  pub smaller : area r'.head ≤ area r.head
  pub same : r'.erosion ≡ r.erosion
  pub only : PlateOnly r.head a a'
  pub part : (p : Head) (m : List ℕ) → RegionIn p m r src → RegionIn p m r' a'

-- a region, its erosion in one buffer, which is not bare, and another buffer
pub record Settleable (r : Region) (a b : List ℕ) : Type 0 where
  pub sides : Sides r.head
  pub some : r.erosion < largest_erosion
  pub deep : Bare r.head a 0 → ⊥
  pub first : area r.head ≤ length a
  pub second : area r.head ≤ length b

-- a climb that begins on it
pub record Settled (plate : Head) (r : Region) (a b b' : List ℕ) (c : Climb) : Type 0 where
  pub second : PlateOnly r.head b b'
  pub climbs : (p : Head) (m : List ℕ) → plate ≡ p → Sides p → RegionIn p m r a
      → Climbing p m c a b' (gather r.erosion 0 (listed_reach p m))
  pub left : (places : ℕ) → left places c.region.head c.stand ≤ (largest_erosion - r.erosion) * (places + 1)

-- ---- the steps of a climb

-- a climb that takes no residue
abbrev pub no_climb : Head → Region → Climb
no_climb p r =
    record {
      plate = p;
      region = r;
      stand = record { limit = largest_erosion; number = 0; here = 0; place = 0; top = 0; more = false };
    }

-- a climb before its first run
pub record Begun (p : Head) (m a a' b b' : List ℕ) (c : Climb) : Type 0 where
  pub first : PlateOnly p a a'
  pub second : PlateOnly p b b'
  pub climbs : Climbing p m c a' b' []

-- its numbers are those of a climb
pub record Turnable (c : Climb) : Type 0 where
  pub narrow : c.region.head.width ≤ largest_side
  pub low : c.stand.more ≡ true → (1 ≤ c.stand.number) × (c.stand.number ≤ largest_erosion)

-- it is at the first place of an odd residue, whose erosion stands in the first buffer
pub record Turning (c : Climb) : Type 0 where
  pub more : c.stand.more ≡ true
  pub odd : c.stand.number % 2 ≡ 1
  pub first : c.stand.place ≡ (c.stand.number - 1) * c.region.head.width

-- a climb of some relief
pub record ClimbingSome (c : Climb) (a b : List ℕ) : Type 0 where
  pub plate : Head
  pub relief : List ℕ
  pub done : List Plunge
  pub climbs : Climbing plate relief c a b done

-- what a step leaves of a climb of relief m that had listed `done`: it has listed `next`
pub record StepOf (p : Head) (m a a' b b' : List ℕ) (c' : Climb) (next : List Plunge) : Type 0 where
  pub first : PlateOnly p a a'
  pub second : PlateOnly p b b'
  pub climbs : Climbing p m c' a' b' next

-- the same climb, on a smaller region or on the same
pub record Narrowed (c : Climb) (a a' b b' : List ℕ) (c' : Climb) : Type 0 where
  pub step : (p : Head) (m : List ℕ) (done : List Plunge) → Climbing p m c a b done → StepOf p m a a' b b' c' done
  pub less : (p : Head) (m : List ℕ) (done : List Plunge) → Climbing p m c a b done → left_of p c' ≤ left_of p c

-- a climb that is not at its end, and an array for the marks of its next run
pub record Underway (c : Climb) (a b marks : List ℕ) : Type 0 where
  pub climbs : ClimbingSome c a b
  pub more : c.stand.more ≡ true
  pub size : length marks ≡ mark_places

-- one run: its marks are its plunges
pub record Stepped (c : Climb) (a a' b b' marks' : List ℕ) (r : Step) : Type 0 where
  pub marked : FoundMarks r.found marks'
  pub step : (p : Head) (m : List ℕ) (done : List Plunge) → Climbing p m c a b done
      → StepOf p m a a' b b' r.next (done ++ found_plunges r.found marks')
  pub less : (p : Head) (m : List ℕ) (done : List Plunge) → Climbing p m c a b done → left_of p r.next < left_of p c
