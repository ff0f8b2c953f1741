-- Laws of a climb: a residue's first place as a new beginning, one run more, and the whole listing at the end.
use mathlib.Core.Path.{◌≡◌, refl, sym, ap, ap₂, ◌∙◌, subst}
use mathlib.Core.Logic.{◌⊎◌, inl, inr}
use mathlib.Core.Bool.{Bool, true, false, cond}
use mathlib.Core.List.{List, [], ◌∷◌, ◌++◌, map, map-append, append_assoc}
use Prim.Native.Nat.{ℕ, ◌+◌, ◌*◌, ◌-◌, ◌≤◌, ◌<◌}
use native.Mathlib.Omega.{arith}
use native.Mathlib.Decide.{dec_le}
use lib.Dec.{eqb}
use lib.ListN.{length, get_or}
use Rattle.geometry.specs.declared.Head.{Head}
use Rattle.geometry.specs.declared.Plunge.{Plunge}
use Rattle.geometry.specs.declared.Reach.{Reach}
use Rattle.geometry.specs.Lists.{gather}
use Rattle.geometry.specs.Plane.{Cell, cell}
use Rattle.geometry.specs.Plate.{On, area, at}
use Rattle.theory.specs.Erosion.{erosion}
use Rattle.theory.specs.Climbed.{Bare, erosion_count}
use Rattle.theory.specs.Listing.{listing}
use Rattle.theory.proofs.Plate.{on-or-off, at-cell}
use Rattle.theory.proofs.Erosion.{erosion-off, erosion-top}
use Rattle.theory.proofs.Climbed.{count-first, count-bound}
use Rattle.theory.proofs.Lists.{gather-same}
use Rattle.refusal.specs.Refusals.{largest_side, largest_erosion}
use Rattle.erosion_series.specs.Pairs.{Last}
use Rattle.erosion_series.proofs.Pairs.{kept_more}
use Rattle.residue_series.specs.declared.Run.{Run}
use Rattle.residue_series.specs.Plunges.{listed_reach, so_far, plunge_at, on_mark, marks_to}
use Rattle.residue_series.specs.Stands.{Due, Midway, Level, listed_to, left, left_at, run_listed, Taken, TakenOf}
use Rattle.residue_series.proofs.Plunges.{erosion-north, row-above, so-far-next}
use Rattle.residue_series.proofs.Stands.{standing-rest}
use Rattle.climb.specs.declared.Region.{Region}
use Rattle.climb.specs.declared.Climb.{Climb}
use Rattle.climb.specs.declared.Found.{Found}
use Rattle.climb.specs.Regions.{moved}
use Rattle.climb.specs.Climbs.{plunge_of, found_plunges, FoundMarks, RegionIn, listed_with, erosions_taken, Climbing, left_of}
use Rattle.climb.specs.Climbs.{OnPlates, RegionPart, Settleable, Settled, Turnable, Turning, StepOf, Narrowed, Stepped}
use Rattle.climb.proofs.Regions.{gather-map, region-bare, bare-region, region-reaches, region-listing, region-later}
use Rattle.climb.proofs.Beginnings.{plate-only, region-area, part-settleable, part-second, part-climbs, part_left}

-- ---- a residue's first place as a new beginning

module _ (p : Head) (m : List ℕ) (c : Climb) (a b : List ℕ) (done : List Plunge) (g : Climbing p m c a b done) where
  abbrev k : ℕ
  k = c.stand.number

  abbrev w : ℕ
  w = c.region.head.width

  -- a climb's region lies on the plate
  pub climbing-across : c.region.column + c.region.head.width ≤ largest_side
  climbing-across = omega (arith, g.region.wide, g.sides.narrow)

  pub climbing-down : c.region.row + c.region.head.height ≤ largest_side
  climbing-down = omega (arith, g.region.high, g.sides.low)

  pub climbing-area : area c.region.head ≤ area p
  climbing-area = region-area p m _ _ _ _ _ g.region

  -- the number of its residue, counted from the relief
  pub climbing-numbers : c.stand.more ≡ true → (1 ≤ k) × (c.region.erosion + k ≤ largest_erosion)
  climbing-numbers e =
      let some = (g.stands e).level.some in
      let last = (g.stands e).level.last in
      let limit = g.limit in
      (omega arith, omega arith)

  -- a climb goes on only to a residue that is due: it ends at the first rung without depth
  pub climbing-due : c.stand.more ≡ true → Due p m (c.region.erosion + k)
  climbing-due e z =
      let some = (climbing-numbers e).0 in
      let i : c.region.erosion + k - 1 ≡ c.region.erosion + (k - 1) = omega arith in
      (g.stands e).due (bare-region p m _ _ _ _ g.relief g.region (k - 1) (subst (Bare p m) i z))

  pub climbing-turnable : Turnable c
  climbing-turnable =
      record {
        narrow = let a = climbing-across in omega arith;
        low = λ e. let n = climbing-numbers e in (n.0, omega (arith, n.1));
      }

  module _ (t : Turning c) where
    level : Level c.region.head c.stand.limit k c.stand.place
    level = (g.stands t.more).level

    midway : Midway c.region.head g.relief k c.stand.here c.stand.place c.stand.top a b
    midway = (g.stands t.more).pair.odd t.odd

    -- the first buffer holds the erosion before
    turned : (o : Cell) → at c.region.head a o ≡ erosion c.region.head g.relief (k - 1) o
    turned o = go (on-or-off c.region.head o)
      where
        by_place : (x y : ℕ) → x < w → y < c.region.head.height → Dec (c.stand.place ≤ y * w + x)
            → get_or a (y * w + x) 0 ≡ erosion c.region.head g.relief (k - 1) (cell x y)
        by_place x y h l (yes e) = midway.behind x y h l e
        by_place x y h l (no e) =
            let r : y < k - 1 = row-above w (k - 1) x y (omega (arith, t.first)) in
            midway.ahead x y h l (omega arith) ∙ erosion-north c.region.head g.relief (k + 1) x y (omega arith)
            ∙ sym (erosion-north c.region.head g.relief (k - 1) x y r)

        go : On c.region.head o ⊎ ((n : List ℕ) → at c.region.head n o ≡ 0)
            → at c.region.head a o ≡ erosion c.region.head g.relief (k - 1) o
        go (inr z) = z a ∙ sym (erosion-off c.region.head g.relief (k - 1) o z)
        go (inl i) =
            subst (λ d. at c.region.head a d ≡ erosion c.region.head g.relief (k - 1) d) (sym i.is)
            (at-cell c.region.head a i.column i.row i.left i.upper
            ∙ by_place i.column i.row i.left i.upper (dec_le c.stand.place (i.row * w + i.column)))

    pub turn-region : RegionIn p m (record {
      head = c.region.head;
      column = c.region.column;
      row = c.region.row;
      erosion = c.region.erosion + (k - 1);
    }) a
    turn-region = region-later p m _ _ _ _ g.relief g.region (k - 1) a turned

    -- all plunges of smaller reaches are listed
    pub turn-listed : done ≡ gather (c.region.erosion + (k - 1)) 0 (listed_reach p m)
    turn-listed =
        let some = level.some in
        let last = level.place in
        let e : k - 1 + 1 ≡ k = omega arith in
        g.listed
        ∙ ap (λ (t : Bool). listed_with p m c.region (cond t (so_far c.region.head g.relief k c.stand.place)
        (listing c.region.head c.stand.limit g.relief))) t.more
        ∙ ap (λ (n : ℕ). listed_with p m c.region (so_far c.region.head g.relief k n)) t.first
        ∙ ap (λ (n : ℕ). listed_with p m c.region (so_far c.region.head g.relief n ((k - 1) * w))) (sym e)
        ∙ ap (listed_with p m c.region) (so-far-next c.region.head g.relief level.sides.wide (k - 1) (omega (arith, level.first, last)))
        ∙ sym (region-reaches p m _ _ _ _ g.relief g.region (k - 1))

    pub turn_on : (e : ℕ) → OnPlates (record { head = c.region.head; column = c.region.column; row = c.region.row; erosion = e })
    turn_on e = record { sides = level.sides; across = climbing-across; down = climbing-down }

    pub turn-room : area c.region.head ≤ length a
    turn-room = midway.long

    pub turn-asks : (a' : List ℕ) (r' : Region) → RegionPart (record {
      head = c.region.head;
      column = c.region.column;
      row = c.region.row;
      erosion = c.region.erosion + (k - 1);
    }) a a a' r' → Settleable r' a' b
    turn-asks a' r' part =
        part-settleable _ r' a a a' b part (let n = climbing-numbers t.more in omega (arith, n)) deep midway.long midway.held.long
      where
        -- the climb goes on, so its erosion is not bare
        deep : Bare r'.head a' 0 → ⊥
        deep z =
            let some = level.some in
            let e : r'.erosion + 0 ≡ c.region.erosion + k - 1 = omega (arith, part.same) in
            climbing-due t.more (subst (Bare p m) e (region-bare p m _ _ _ _ a' (part.part p m turn-region) 0 z))

    -- what is left is the same
    turn-left : (places : ℕ) → (largest_erosion - (c.region.erosion + (k - 1))) * (places + 1) ≤ left places c.region.head c.stand
    turn-left places =
        let some = level.some in
        let last = level.last in
        let limit = g.limit in
        let e : largest_erosion - (c.region.erosion + (k - 1)) ≡ c.stand.limit + 1 - k = omega arith in
        subst (λ (e : Bool). (largest_erosion - (c.region.erosion + (k - 1))) * (places + 1)
        ≤ cond e (left_at places c.region.head c.stand.limit k c.stand.place) 0)
        (sym t.more) (omega (arith, ap (λ (n : ℕ). n * (places + 1)) e, t.first))

    module _ (a' b' : List ℕ) (r' : Region) (c' : Climb) (part : RegionPart (record {
      head = c.region.head;
      column = c.region.column;
      row = c.region.row;
      erosion = c.region.erosion + (k - 1);
    }) a a a' r') (s : Settled c.plate r' a' b b' c') where
      pub turn_step : StepOf p m a a' b b' c' done
      turn_step =
          record {
            first = plate-only p _ a a' climbing-area part.only;
            second = plate-only p _ b b' climbing-area (part-second c.plate _ r' a a a' b b' c' part s);
            climbs = subst (Climbing p m c' a' b') (sym turn-listed)
                (part-climbs c.plate _ r' a a a' b b' c' part s p m g.plate g.sides turn-region);
          }

      pub turn-less : left_of p c' ≤ left_of p c
      turn-less = omega (arith, part_left c.plate _ r' a a a' b b' c' part s (area p), turn-left (area p))

-- ---- one run more

-- marks stand for moved plunges
marks-moved : (h : Plunge → Plunge) (f : ℕ → ℕ → Plunge) (start n : ℕ) (marks : List ℕ)
    → map h (marks_to n f start marks) ≡ marks_to n (λ i d. h (f i d)) start marks
marks-moved h f start n marks =
    gather-map h n 0 (λ i. on_mark f (start + i) (get_or marks i 0))
    ∙ gather-same n 0 _ _ (λ i l u. each (start + i) (get_or marks i 0) (eqb (get_or marks i 0) 0))
  where
    each : (i d : ℕ) (t : Bool) → map h (cond t [] (f i d ∷ [])) ≡ cond t [] (h (f i d) ∷ [])
    each i d true = refl
    each i d false = refl

module _ (c : Climb) (a a' b b' marks' : List ℕ) (run : Run) (reach : Reach) (is : reach.0 ≡ c.region.erosion + c.stand.number - 1)
    (more : c.stand.more ≡ true) (taken : Taken c.region.head c.stand a a' b b' marks' run) where
  abbrev found : Found
  found = record { region = c.region; reach = reach; places = run.places; deepest = run.deepest }

  abbrev after : Climb
  after = record { plate = c.plate; region = c.region; stand = run.next }

  module _ (p : Head) (m : List ℕ) (done : List Plunge) (g : Climbing p m c a b done) where
    of : TakenOf c.region.head g.relief c.stand a' b' marks' run
    of = taken.step g.relief (g.stands more)

    found-moved : found_plunges found marks'
        ≡ map (moved c.region.erosion c.region.column c.region.row) (run_listed c.region.head g.relief c.stand.number run.places)
    found-moved =
        let some = (g.stands more).level.some in
        let e : reach.0 ≡ c.region.erosion + (c.stand.number - 1) = omega arith in
        ap (λ (r : ℕ). marks_to run.places.number
        (plunge_of (record { region = c.region; reach = record { 0 = r }; places = run.places; deepest = run.deepest }))
        run.places.start marks') e
        ∙ sym (marks-moved (moved c.region.erosion c.region.column c.region.row) (plunge_at c.region.head.width (c.stand.number - 1))
        run.places.start run.places.number marks')
        ∙ ap (map (moved c.region.erosion c.region.column c.region.row)) of.marked

    run-joined : done ++ found_plunges found marks' ≡ listed_with p m c.region (listed_to c.region.head g.relief run.next)
    run-joined =
        ap₂ (λ (l o : List Plunge). l ++ o) g.listed found-moved
        ∙ append_assoc (gather c.region.erosion 0 (listed_reach p m)) (map move (listed_to c.region.head g.relief c.stand)) _
        ∙ ap (λ (l : List Plunge). gather c.region.erosion 0 (listed_reach p m) ++ l)
        (sym (map-append move (listed_to c.region.head g.relief c.stand) _)
        ∙ ap (map move) (sym (of.listed ∙ ap (λ (t : Bool). cond t (so_far c.region.head g.relief c.stand.number c.stand.place)
        (listing c.region.head c.stand.limit g.relief) ++ run_listed c.region.head g.relief c.stand.number run.places) (sym more))))
      where
        move : Plunge → Plunge
        move = moved c.region.erosion c.region.column c.region.row

    -- at its end the climb has come to the first bare erosion
    run-ended : run.next.more ≡ false → erosions_taken after ≡ erosion_count p m
    run-ended e =
        ap (λ (n : ℕ). c.region.erosion + n) (of.ended e).0
        ∙ count-first p m (c.region.erosion + c.stand.number) (go (of.ended e).1) (λ l. climbing-due p m c a b done g more)
      where
        go : Last c.region.head g.relief c.stand.limit c.stand.number → Bare p m (c.region.erosion + c.stand.number)
        go (inl l) =
            let i : largest_erosion ≡ c.region.erosion + c.stand.number = omega (arith, g.limit) in
            subst (Bare p m) i (erosion-top p m largest_erosion (omega (arith, g.sides.narrow)))
        go (inr z) = region-bare p m _ _ _ _ g.relief g.region c.stand.number z

    pub run_step : StepOf p m a a' b b' after (done ++ found_plunges found marks')
    run_step =
        let same = taken.same in
        let limit = g.limit in
        record {
          first = plate-only p _ a a' (climbing-area p m c a b done g) taken.first;
          second = plate-only p _ b b' (climbing-area p m c a b done g) taken.second;
          climbs = record {
            plate = g.plate;
            sides = g.sides;
            relief = g.relief;
            region = g.region;
            limit = omega arith;
            stands = of.stands;
            ended = run-ended;
            listed = run-joined;
          };
        }

    pub run-less : left_of p after < left_of p c
    run-less =
        subst (λ (t : Bool). left_of p after < cond t (left_at (area p) c.region.head c.stand.limit c.stand.number c.stand.place) 0) (sym more)
        (taken.less (area p) (climbing-area p m c a b done g))

    pub run-marked : FoundMarks found marks'
    run-marked =
        let numbers = climbing-numbers p m c a b done g more in
        record {
          wide = (g.stands more).level.sides.wide;
          across = climbing-across p m c a b done g;
          down = climbing-down p m c a b done g;
          reach = omega (arith, is, numbers);
          within = taken.within;
          short = taken.short;
          size = taken.size;
          none = λ z. found-moved ∙ ap (map (moved c.region.erosion c.region.column c.region.row)) (of.none z);
        }

  -- a run, and then the same climb on a smaller region
  pub stepped : (p : Head) (m : List ℕ) (done : List Plunge) → Climbing p m c a b done → (a'' b'' : List ℕ) (c'' : Climb) → Narrowed after a' a'' b' b'' c''
      → Stepped c a a'' b b'' marks' (record { found = found; next = c'' })
  stepped p m done g a'' b'' c'' n =
      record {
        marked = run-marked p m done g;
        step = λ p m done g.
            let s = run_step p m done g in
            let t = n.step p m _ s.climbs in
            record {
              first = kept_more p a a' a'' s.first t.first;
              second = kept_more p b b' b'' s.second t.second;
              climbs = t.climbs;
            };
        less = λ p m done g. omega (arith, run-less p m done g, n.less p m _ (run_step p m done g).climbs);
      }

-- ---- the listing

-- what a climb has listed is the listing's beginning, and at its end the whole
module _ (p : Head) (m : List ℕ) (c : Climb) (a b : List ℕ) (done : List Plunge) (g : Climbing p m c a b done) where
  whole : listing p largest_erosion m ≡ listed_with p m c.region (listing c.region.head c.stand.limit g.relief)
  whole =
      let limit = g.limit in
      let e : largest_erosion - c.region.erosion ≡ c.stand.limit = omega arith in
      region-listing p m _ _ _ _ g.relief g.region largest_erosion (omega arith)
      ∙ ap (λ (n : ℕ). listed_with p m c.region (listing c.region.head n g.relief)) e

  pub climbing-end : c.stand.more ≡ false → done ≡ listing p largest_erosion m
  climbing-end e =
      g.listed
      ∙ ap (λ (t : Bool). listed_with p m c.region (cond t (so_far c.region.head g.relief c.stand.number c.stand.place)
      (listing c.region.head c.stand.limit g.relief))) e
      ∙ sym whole

  -- it has taken no more erosions than are numbered
  pub climbing-few : c.stand.more ≡ false → erosions_taken c ≤ largest_erosion
  climbing-few e = omega (arith, g.ended e, count-bound p m, g.sides.narrow)

  pub climbing-rest : (cs : List Plunge) × (listing p largest_erosion m ≡ done ++ cs)
  climbing-rest =
      let r = standing-rest c.region.head g.relief c.stand (λ e. (g.stands e).level) in (
        map (moved c.region.erosion c.region.column c.region.row) r.0,
        whole
            ∙ ap (listed_with p m c.region) r.1
            ∙ ap (λ (l : List Plunge). gather c.region.erosion 0 (listed_reach p m) ++ l)
            (map-append (moved c.region.erosion c.region.column c.region.row) (listed_to c.region.head g.relief c.stand) r.0)
            ∙ sym (append_assoc (gather c.region.erosion 0 (listed_reach p m)) _ _)
            ∙ ap (λ (l : List Plunge). l ++ map (moved c.region.erosion c.region.column c.region.row) r.0) (sym g.listed),
      )
