-- Laws of how a climb begins: the part of a region that is not bare, a climb that settles on it, and the climb of a relief before its first run.
use mathlib.Core.Path.{◌≡◌, refl, sym, ap, ap₂, ◌∙◌, subst}
use mathlib.Core.Logic.{◌⊎◌, inl, inr}
use mathlib.Core.Bool.{Bool, true≢false, cond}
use mathlib.Core.List.{List, [], ◌++◌, map, append-nil}
use Prim.Native.Nat.{ℕ, ◌+◌, ◌*◌, ◌-◌, ◌≤◌, ◌<◌}
use native.Mathlib.Omega.{arith}
use native.Mathlib.Nat.{mul-le-mul}
use lib.Arith.{digits_lt}
use lib.ListN.{length}
use Rattle.geometry.specs.declared.Head.{Head}
use Rattle.geometry.specs.Lists.{gather}
use Rattle.geometry.specs.Plane.{cell}
use Rattle.geometry.specs.Plate.{On, area, at}
use Rattle.theory.specs.Climbed.{Bare}
use Rattle.theory.specs.Listing.{listing}
use Rattle.theory.proofs.Plate.{on-or-off, at-cell}
use Rattle.theory.proofs.Erosion.{erosion-zero}
use Rattle.theory.proofs.Listing.{listing-stops}
use Rattle.theory.proofs.Climbed.{count-first}
use Rattle.refusal.specs.Refusals.{largest_erosion}
use Rattle.refusal.specs.Sides.{Sides}
use Rattle.buffers.specs.Fill.{PlateOnly}
use Rattle.bounding_box.specs.declared.Bounds.{Bounds}
use Rattle.bounding_box.specs.Boxes.{Within, BareOutside, Copied, Copyable, FirstSet}
use Rattle.bounding_box.proofs.Boxing.{within-croppable}
use Rattle.erosion_series.proofs.Pairs.{kept-none}
use Rattle.residue_series.specs.declared.Stand.{Stand}
use Rattle.residue_series.specs.Plunges.{listed_reach}
use Rattle.residue_series.specs.Stands.{left, left_at, Started}
use Rattle.residue_series.proofs.Midways.{at_place}
use Rattle.climb.specs.declared.Region.{Region}
use Rattle.climb.specs.declared.Climb.{Climb}
use Rattle.climb.specs.Regions.{moved, RegionOf}
use Rattle.climb.specs.Climbs.{RegionIn, erosions_taken, Climbing}
use Rattle.climb.specs.Climbs.{OnPlates, part_in, RegionPart, Settleable, Settled, no_climb, Begun}
use Rattle.climb.proofs.Regions.{region-bare, region-whole, region-cropped}

-- only the bytes of a smaller plate are others
pub plate-only : (p p' : Head) (old new : List ℕ) → area p' ≤ area p → PlateOnly p' old new → PlateOnly p old new
plate-only p p' old new h k = record { same = k.same; surplus = λ n l. k.surplus n (omega arith) }

-- a region has no more cells than the plate that it lies on
pub region-area : (p : Head) (m : List ℕ) (k dx dy : ℕ) (p' : Head) (m' : List ℕ) → RegionOf p m k dx dy p' m' → area p' ≤ area p
region-area p m k dx dy p' m' r =
    let a : p'.height ≤ p.height = let h = r.high in omega arith in
    let b : p'.width ≤ p.width = let h = r.wide in omega arith in
    mul-le-mul a b

-- ---- the part of a region that is not bare, and a climb that begins on it

-- the part in a box outside of which the region is bare
pub parts : (r : Region) (src a a' : List ℕ) (x : Bounds) → OnPlates r → Within r.head x → BareOutside r.head x src
    → Copied r.head.width x src a a' → RegionPart r src a a' (part_in r x)
parts r src a a' x on w bare c =
    let across = w.across in
    let down = w.down in
    let narrow = on.sides.narrow in
    let low = on.sides.low in
    let h : x.height ≤ r.head.height = omega arith in
    let v : x.width ≤ r.head.width = omega arith in
    let s : x.height * x.width ≤ area r.head = mul-le-mul h v in
    record {
      sides = record { wide = w.wide; narrow = omega arith; tall = w.tall; low = omega arith };
      smaller = s;
      same = refl;
      only = record { same = c.same; surplus = λ n h. c.surplus n (omega arith) };
      part = λ p m i. region-cropped p m r.erosion r.column r.row r.head src i x.column x.row _ a' refl w.across w.down
          bare.west bare.east bare.north bare.south c.holds;
    }

-- a box of a region fits another buffer
pub part-copyable : (p : Head) (x : Bounds) (src a : List ℕ) → Sides p → Within p x → area p ≤ length src → area p ≤ length a → Copyable p.width x src a
part-copyable p x src a sides w long room =
    let across = w.across in
    let down = w.down in
    let h : x.height ≤ p.height = omega arith in
    let v : x.width ≤ p.width = omega arith in
    record { box = within-croppable p x src sides w long; room = omega (arith, mul-le-mul h v, room) }

-- a climb can begin on the part
pub part-settleable : (r r' : Region) (src a a' b : List ℕ) → RegionPart r src a a' r' → r.erosion < largest_erosion → (Bare r'.head a' 0 → ⊥)
    → area r.head ≤ length a → area r.head ≤ length b → Settleable r' a' b
part-settleable r r' src a a' b c some deep first second =
    record {
      sides = c.sides;
      some = omega (arith, some, c.same);
      deep = deep;
      first = omega (arith, first, c.smaller, c.only.same);
      second = omega (arith, second, c.smaller);
    }

-- a climb that begins
pub settles : (plate : Head) (r : Region) (limit : ℕ) (a b b' : List ℕ) (s : Stand) → Settleable r a b → limit ≡ largest_erosion - r.erosion
    → Started r.head limit a b b' s → Settled plate r a b b' (record { plate = plate; region = r; stand = s })
settles plate r limit a b b' s asks is t =
    record {
      second = t.kept;
      climbs = λ p m e sides i. record {
        plate = e;
        sides = sides;
        relief = a;
        region = i;
        limit = omega (arith, asks.some, t.first.0);
        stands = λ e. t.stands;
        ended = λ e. absurd (true≢false (sym t.first.3 ∙ e));
        listed = sym (
            ap (λ l. gather r.erosion 0 (listed_reach p m) ++ map (moved r.erosion r.column r.row) l) t.listed
            ∙ append-nil (gather r.erosion 0 (listed_reach p m))
            );
      };
      left = λ places. fresh places;
    }
  where
    fresh : (places : ℕ) → left places r.head s ≤ (largest_erosion - r.erosion) * (places + 1)
    fresh places =
        let l : s.limit + 1 - s.number ≡ largest_erosion - r.erosion = omega (arith, t.first.0, t.first.1) in
        subst (λ (e : Bool). cond e (left_at places r.head s.limit s.number s.place) 0 ≤ (largest_erosion - r.erosion) * (places + 1))
        (sym t.first.3) (omega (arith, ap (λ (k : ℕ). k * (places + 1)) l))

-- a climb that begins on a region's part climbs on from the region
module _ (plate : Head) (r r' : Region) (src a a' b b' : List ℕ) (c : Climb) (part : RegionPart r src a a' r') (s : Settled plate r' a' b b' c) where
  pub part-second : PlateOnly r.head b b'
  part-second = plate-only r.head r'.head b b' part.smaller s.second

  pub part-climbs : (p : Head) (m : List ℕ) → plate ≡ p → Sides p → RegionIn p m r src
      → Climbing p m c a' b' (gather r.erosion 0 (listed_reach p m))
  part-climbs p m e sides i =
      subst (λ (k : ℕ). Climbing p m c a' b' (gather k 0 (listed_reach p m))) part.same
      (s.climbs p m e sides (part.part p m i))

  pub part_left : (places : ℕ) → left places c.region.head c.stand ≤ (largest_erosion - r.erosion) * (places + 1)
  part_left places =
      subst (λ (k : ℕ). left places c.region.head c.stand ≤ (largest_erosion - k) * (places + 1)) part.same (s.left places)

-- ---- a climb before its first run

-- whether a map is bare, by its first place with a number above 0
module _ (p : Head) (m : List ℕ) (n : ℕ) (f : FirstSet (area p) m n) where
  pub bare-all : n ≡ area p → Bare p m 0
  bare-all e c = erosion-zero p m c ∙ go (on-or-off p c)
    where
      go : On p c ⊎ ((l : List ℕ) → at p l c ≡ 0) → at p m c ≡ 0
      go (inl o) =
          ap (at p m) o.is ∙ at-cell p m o.column o.row o.left o.upper
          ∙ f.under.none (o.row * p.width + o.column) (omega arith) (omega (arith, e, digits_lt o.upper o.left))
      go (inr z) = z m

  pub bare-not : 1 ≤ p.width → (n ≡ area p → ⊥) → Bare p m 0 → ⊥
  bare-not wide e z =
      let l : n < area p = omega (arith, f.within, e) in
      omega (
        arith,
        f.set l,
        at_place p wide m n l (λ x y a b i. sym (at-cell p m x y a b) ∙ sym (erosion-zero p m (cell x y)) ∙ z (cell x y)),
      )

pub begins : (p : Head) (m a a' b b' : List ℕ) (r' : Region) (c : Climb) → Sides p
    → RegionPart (record { head = p; column = 0; row = 0; erosion = 0 }) m a a' r' → Settled p r' a' b b' c → Begun p m a a' b b' c
begins p m a a' b b' r' c sides part s =
    record {
      first = part.only;
      second = part-second p _ r' m a a' b b' c part s;
      climbs = part-climbs p _ r' m a a' b b' c part s p m refl sides (region-whole p m m (λ o. refl));
    }

-- a bare relief is at its end, with nothing listed and no erosion taken
pub begins-bare : (p : Head) (m a a' b : List ℕ) (r' : Region) (c : Climb) → Sides p
    → RegionPart (record { head = p; column = 0; row = 0; erosion = 0 }) m a a' r' → Bare r'.head a' 0 → c ≡ no_climb p r' → Begun p m a a' b b c
unfolding listing
begins-bare p m a a' b r' c sides part z is =
    record {
      first = part.only;
      second = kept-none p b;
      climbs = subst (λ (d : Climb). Climbing p m d a' b []) (sym is) climbs;
    }
  where
    region : RegionIn p m r' a'
    region = part.part p m (region-whole p m m (λ o. refl))

    bare : Bare p m 0
    bare =
        let e : r'.erosion + 0 ≡ 0 = omega (arith, part.same) in
        subst (Bare p m) e (region-bare p m _ _ _ _ a' region 0 z)

    untaken : erosions_taken (no_climb p r') ≡ 0
    untaken = omega (arith, part.same)

    none : listing r'.head largest_erosion a' ≡ []
    none = listing-stops r'.head largest_erosion a' 0 (omega arith) z

    climbs : Climbing p m (no_climb p r') a' b []
    climbs =
        record {
          plate = refl;
          sides = sides;
          relief = a';
          region = region;
          limit = omega (arith, part.same);
          stands = λ e. absurd (true≢false (sym e));
          ended = λ e. untaken ∙ count-first p m 0 bare (λ l. absurd (omega arith));
          listed = sym (ap₂ (λ (k : ℕ) l. gather k 0 (listed_reach p m) ++ map (moved r'.erosion r'.column r'.row) l) part.same none);
        }
