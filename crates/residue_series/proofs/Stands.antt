-- Laws of where a series stands: before its first run, after a run, at the next residue, at its end; and what is left of the listing.
use mathlib.Core.Path.{◌≡◌, refl, sym, ap, ◌∙◌, subst}
use mathlib.Core.Logic.{◌⊎◌, inl, inr}
use mathlib.Core.Bool.{Bool, true, false, true≢false, cond}
use mathlib.Core.List.{List, [], ◌++◌, append_assoc, append-nil}
use Prim.Native.Nat.{ℕ, zero, suc, ◌+◌, ◌*◌, ◌-◌, ◌≤◌, ◌<◌, max}
use native.Mathlib.Omega.{arith}
use native.Mathlib.Decide.{dec_le}
use borrow.Author.Tests.{le-leb, lt-leb}
use lib.Dec.{leb}
use native.Mathlib.Nat.{suc-mul, zero-mul, mul-le-mul, mul-le-mul_right}
use lib.Arith.{digits_lt}
use lib.ListN.{length, get_or}
use Rattle.geometry.specs.declared.Head.{Head}
use Rattle.geometry.specs.declared.Plunge.{Plunge}
use Rattle.geometry.specs.Lists.{gather}
use Rattle.geometry.specs.Plane.{Cell, cell}
use Rattle.geometry.specs.Plate.{On, area, at}
use Rattle.theory.specs.Erosion.{erosion}
use Rattle.theory.specs.Climbed.{Bare}
use Rattle.theory.specs.Listing.{listing}
use Rattle.theory.proofs.Plate.{on-or-off, at-cell}
use Rattle.theory.proofs.Erosion.{erosion-zero, erosion-off}
use Rattle.refusal.specs.Refusals.{largest_side, largest_erosion}
use Rattle.erosion_step.specs.Steps.{Stepped}
use Rattle.erosion_series.specs.Pairs.{HoldsErosion, Last}
use Rattle.erosion_series.proofs.Pairs.{held_next}
use Rattle.residue_sweep.specs.declared.Swept.{Swept}
use Rattle.residue_marks.specs.Marks.{mark_places}
use Rattle.residue_series.specs.declared.Stand.{Stand}
use Rattle.residue_series.specs.Plunges.{listed_reach, place_listed, so_far}
use Rattle.residue_series.specs.Stands.{Due, Tops, Midway, PairMidway, Level, Standing, listed_to, PairSweep}
use Rattle.residue_series.specs.Stands.{LastResidue, Advanced, Startable, Started, RunEnd, Taken, TakenOf}
use Rattle.residue_series.proofs.Gather.{gather-parts, gather-turn}
use Rattle.residue_series.proofs.Plunges.{reach-places, erosion-gone, so_far_more, so-far-level, so-far-next, reaches_end}
use Rattle.residue_series.proofs.Midways.{at_place, pair-swept, pair-marked, pair-next, pair-zero, pair-deep, swept-first, swept-second, swept-marks}

-- ---- where a series stands after a run

width-more : (p : Head) (k : ℕ) → 1 ≤ k → k * p.width ≡ p.width + (k - 1) * p.width
width-more p zero g = absurd (omega arith)
width-more p (suc k) g = let e : suc k - 1 ≡ k = omega arith in omega (arith, suc-mul k p.width, ap (λ (j : ℕ). j * p.width) e)

left-falls : (places limit k behind : ℕ) → k < limit → behind ≤ places
    → (limit + 1 - (k + 1)) * (places + 1) ≤ (limit + 1 - k) * (places + 1) - behind
left-falls places limit k behind l h =
    let e : limit + 1 - k ≡ suc (limit + 1 - (k + 1)) = omega arith in
    omega (arith, ap (λ (j : ℕ). j * (places + 1)) e, suc-mul (limit + 1 - (k + 1)) (places + 1))

-- a plate of which k rows at each end are all has no more than 2 * k
rows-gone : (w h k : ℕ) → 1 ≤ w → h * w ≤ k * w + k * w → h ≤ k + k
rows-gone w h k a l = go (dec_le h (k + k))
  where
    go : Dec (h ≤ k + k) → h ≤ k + k
    go (yes g) = g
    go (no g) = let o : suc (k + k) ≤ h = omega arith in absurd (omega (arith, mul-le-mul_right w o, suc-mul (k + k) w, native.Mathlib.Nat.add-mul k k w))

-- a residue is the last by its number, or because its erosion is 0: nowhere above 0, or with no row left that could be
module _ (p : Head) (s : Stand) where
  pub last-number : s.number ≡ s.limit → LastResidue p s true
  last-number e = record { ends = λ t m n top a b q. inl e; goes_on = λ t. absurd (true≢false t) }

  pub last-bare : s.here ≡ 0 → LastResidue p s true
  last-bare z = record { ends = λ t m n top a b q. inr (pair-zero p m s.number s.here n top a b q z); goes_on = λ t. absurd (true≢false t) }

  module _ (level : Level p s.limit s.number s.place) where
    last-rows : area p ≤ s.number * p.width + s.number * p.width → LastResidue p s true
    last-rows h =
        record {
          ends = λ t m n top a b q. inr (erosion-gone p m s.number (rows-gone p.width p.height s.number level.sides.wide h));
          goes_on = λ t. absurd (true≢false t);
        }

    not_last : (s.number ≡ s.limit → ⊥) → (s.here ≡ 0 → ⊥) → s.number * p.width + s.number * p.width < area p → LastResidue p s false
    not_last e d h = record { ends = λ t. absurd (true≢false (sym t)); goes_on = λ t. (let l = level.last in omega (arith, e), h, d) }

    -- past the other two tests, by the rows that are left
    pub last-or-not : (s.number ≡ s.limit → ⊥) → (s.here ≡ 0 → ⊥) → LastResidue p s (leb (area p) (s.number * p.width + s.number * p.width))
    last-or-not e d = go (dec_le (area p) (s.number * p.width + s.number * p.width))
      where
        go : Dec (area p ≤ s.number * p.width + s.number * p.width) → LastResidue p s (leb (area p) (s.number * p.width + s.number * p.width))
        go (yes h) = rw (le-leb _ _ h) (last-rows h)
        go (no h) = let g : s.number * p.width + s.number * p.width < area p = omega arith in rw (lt-leb _ _ g) (not_last e d g)

-- the products of a place's level are small
pub level-small : (p : Head) (limit k n : ℕ) → Level p limit k n
    → (area p ≤ largest_side * largest_side) × (k * p.width ≤ largest_erosion * largest_side)
level-small p limit k n l =
    let g = l.last in
    let h = l.high in
    let m : k ≤ largest_erosion = omega arith in
    (mul-le-mul l.sides.low l.sides.narrow, mul-le-mul m l.sides.narrow)

module _ (p : Head) (limit k here n : ℕ) (from : ℕ) (level : Level p limit k from) (on : from ≤ n) (top : ℕ) where
  -- at the same residue
  pub stays : n + k * p.width < area p + p.width → (m a b : List ℕ) → Due p m k → PairMidway p m k here n top a b
      → Advanced p m limit k n a b (record { limit = limit; number = k; here = here; place = n; top = top; more = true })
  stays h m a b due q =
      let e = width-more p k level.some in
      record {
        stands = λ t. record {
          level = record {
            sides = level.sides;
            high = level.high;
            some = level.some;
            last = level.last;
            first = let f = level.first in omega arith;
            place = omega arith;
          };
          due = due;
          pair = q;
        };
        ended = λ t. absurd (true≢false t);
        listed = λ l. refl;
        same = refl;
        less = λ places g l. omega arith;
      }

  module _ (h : area p + p.width ≤ n + k * p.width) where
    over : area p ≤ n + (k - 1) * p.width
    over = let e = width-more p k level.some in omega arith

    -- at its end
    pub ends : (m a b : List ℕ) → Last p m limit k
        → Advanced p m limit k n a b (record { limit = limit; number = k; here = here; place = n; top = top; more = false })
    ends m a b o =
        record {
          stands = λ t. absurd (true≢false (sym t));
          ended = λ t. (refl, o);
          listed = λ l. reaches_end p m k limit level.last o
              ∙ sym (so-far-level p m level.sides.wide k n level.some (omega arith) over);
          same = refl;
          less = λ places g l. omega arith;
        }

    -- at the next residue
    pub goes_on : k < limit → k * p.width + k * p.width < area p → (here ≡ 0 → ⊥) → (m a b : List ℕ) → PairMidway p m k here n top a b
        → Advanced p m limit k n a b (record { limit = limit; number = k + 1; here = top; place = k * p.width; top = 0; more = true })
    goes_on l g d m a b q =
        let e : k + 1 - 1 ≡ k = omega arith in
        let f = ap (λ (j : ℕ). j * p.width) e in
        record {
          stands = λ t. record {
            level = record {
              sides = level.sides;
              high = level.high;
              some = omega arith;
              last = omega arith;
              first = omega (arith, f);
              place = omega (arith, f);
            };
            due = λ z. pair-deep p m k here n top a b q d (subst (Bare p m) e z);
            pair = pair-next p m k here n top a b q level.some over;
          };
          ended = λ t. absurd (true≢false t);
          listed = λ i. so-far-next p m level.sides.wide k (omega arith)
              ∙ sym (so-far-level p m level.sides.wide k n level.some (omega arith) over);
          same = refl;
          less = λ places j i. omega (arith, f, left-falls places limit k (n - (k - 1) * p.width) l (omega arith));
        }

-- ---- a series before its first run

-- the highest of no numbers, and of one number more
pub tops-none : (m : List ℕ) → Tops 0 m 0
tops-none m = record { over = λ i l. absurd (omega arith); bare = λ z. refl }

pub tops-more : (n top r : ℕ) (m : List ℕ) → Tops n m top → r ≡ max top (get_or m n 0) → Tops (n + 1) m r
tops-more n top r m h e =
    record {
      over = λ i l. go i l (dec_le n i);
      bare = λ z. omega (arith, h.bare (λ i l. z i (omega arith)), z n (omega arith));
    }
  where
    go : (i : ℕ) → i < n + 1 → Dec (n ≤ i) → get_or m i 0 ≤ r
    go i l (yes g) = let k : i ≡ n = omega arith in rw k (omega arith)
    go i l (no g) = omega (arith, h.over i (omega arith))

pub started : (p : Head) (limit : ℕ) (m b b' : List ℕ) (v here : ℕ) → Startable p limit m b → Stepped p m b b' v → Tops (area p) b' here
    → Started p limit m b b' (record { limit = limit; number = 1; here = here; place = 0; top = 0; more = true })
started p limit m b b' v here s e top =
    record {
      first = (refl, refl, refl, refl);
      stands = record {
        level = record {
          sides = s.sides;
          high = s.high;
          some = omega arith;
          last = s.some;
          first = omega (arith, zero-mul p.width);
          place = omega (arith, zero-mul p.width, mul-le-mul s.sides.tall s.sides.wide);
        };
        due = s.deep;
        pair = record { even = λ z. absurd (omega arith); odd = λ z. first };
      };
      listed = refl;
      kept = record { same = e.map.same; surplus = e.map.surplus };
    }
  where
    relief : HoldsErosion p m 0 m
    relief = record { long = s.relief; holds = λ c. sym (erosion-zero p m c) }

    eroded : HoldsErosion p m 1 b'
    eroded = held_next p m 0 m relief b b' v e s.room

    low : (c : Cell) → On p c ⊎ ((n : List ℕ) → at p n c ≡ 0) → erosion p m 1 c ≤ here
    low c (inl o) =
        subst (λ d. erosion p m 1 d ≤ here) (sym o.is)
        (omega (
          arith,
          eroded.holds (cell o.column o.row),
          at-cell p b' o.column o.row o.left o.upper,
          top.over (o.row * p.width + o.column) (digits_lt o.upper o.left),
        ))
    low c (inr z) = omega (arith, erosion-off p m 1 c z)

    bare : Bare p m 1 → (x y : ℕ) → x < p.width → y < p.height → get_or b' (y * p.width + x) 0 ≡ 0
    bare z x y a b = sym (at-cell p b' x y a b) ∙ eroded.holds (cell x y) ∙ z (cell x y)

    first : Midway p m 1 here 0 0 m b'
    first =
        record {
          held = eroded;
          low = λ c. low c (on-or-off p c);
          long = s.relief;
          ahead = λ x y a b i. absurd (omega arith);
          behind = λ x y a b i. sym (at-cell p m x y a b) ∙ relief.holds (cell x y);
          under = λ x y a b i. absurd (omega arith);
          bare-here = λ z. top.bare (λ i l. at_place p s.sides.wide b' i l (λ x y a b g. bare z x y a b));
          bare-top = λ z. refl;
        }

-- ---- one run, from what its parts leave

left_less : (places limit k n end first : ℕ) → k ≤ limit → first ≤ n → n < end → end ≤ places
    → (limit + 1 - k) * (places + 1) - (end - first) < (limit + 1 - k) * (places + 1) - (n - first)
left_less places limit k n end first l f a b =
    let e : limit + 1 - k ≡ suc (limit - k) = omega arith in
    omega (arith, ap (λ (j : ℕ). j * (places + 1)) e, suc-mul (limit - k) (places + 1))

module _ (p : Head) (s : Stand) (a a' b b' marks marks' : List ℕ) (end : ℕ) (w : Swept) (top : ℕ) (next : Stand)
    (level : Level p s.limit s.number s.place) (run : RunEnd p s.number s.place end)
    (swept : PairSweep p s.number (record { start = s.place; number = end - s.place }) a a' b b' marks marks' w) (is : top ≡ max s.top w.top)
    (advanced : (m a b : List ℕ) → Due p m s.number → PairMidway p m s.number s.here end top a b → Advanced p m s.limit s.number end a b next) where
  at-end : s.place + (end - s.place) ≡ end
  at-end = let l = run.some in omega arith

  within : s.place + (end - s.place) ≤ area p
  within = let l = run.some in let g = run.within in omega arith

  on : (m : List ℕ) → Standing p m s a b → Advanced p m s.limit s.number end a' b' next
  on m t =
      advanced m a' b' t.due
      (subst (λ (n : ℕ). PairMidway p m s.number s.here n top a' b') at-end
      (pair-swept p m s.number s.here s.place s.top a b t.pair _ a' b' marks marks' w swept refl
      level.sides.wide within top is))

  of : (m : List ℕ) → Standing p m s a b → TakenOf p m s a' b' marks' (record {
    places = record { start = s.place; number = end - s.place };
    deepest = w.deepest;
    next = next;
  })
  of m t =
      let marked = pair-marked p m s.number s.here s.place s.top a b t.pair _ a' b' marks marks' w swept refl level.sides.wide level.some within in
      record {
        stands = (on m t).stands;
        ended = (on m t).ended;
        marked = marked.0;
        none = marked.1;
        listed = (on m t).listed run.within ∙ ap (so_far p m s.number) (sym at-end)
            ∙ so_far_more p m level.sides.wide s.number s.place (end - s.place);
      }

  pub taken : (m : List ℕ) → Standing p m s a b → length marks ≡ mark_places → Taken p s a a' b b' marks' (record {
    places = record { start = s.place; number = end - s.place };
    deepest = w.deepest;
    next = next;
  })
  taken m t size =
      let kept = swept-marks p s.number _ a a' b b' marks marks' w swept in
      let short = run.short in
      let some = run.some in
      let low = run.within in
      record {
        first = swept-first p s.number _ a a' b b' marks marks' w swept within;
        second = swept-second p s.number _ a a' b b' marks marks' w swept within;
        size = kept ∙ size;
        within = within;
        short = omega arith;
        same = (on m t).same;
        less = λ places g.
            omega (
              arith,
              (on m t).less places g (omega arith),
              left_less places s.limit s.number s.place end ((s.number - 1) * p.width) level.last level.first run.some (omega arith),
            );
        step = of;
      }

-- ---- what is left of the listing

-- the listing so far is the beginning of the listing
so-far-rest : (p : Head) (m : List ℕ) (limit k n : ℕ) → 1 ≤ p.width → 1 ≤ k → k ≤ limit → n ≤ area p
    → listing p limit m ≡ so_far p m k n ++ (gather (area p - n) n (place_listed p m (k - 1)) ++ gather (limit - k) k (listed_reach p m))
unfolding listing
so-far-rest p m limit k n wide some last within =
    gather-parts (listed_reach p m) k limit last
    ∙ ap (λ l. l ++ gather (limit - k) k (listed_reach p m))
    (ap (λ (j : ℕ). gather j 0 (listed_reach p m)) back ∙ gather-turn (listed_reach p m) (k - 1)
    ∙ ap (λ l. gather (k - 1) 0 (listed_reach p m) ++ l) (reach-places p m wide (k - 1) ∙ gather-parts (place_listed p m (k - 1)) n (area p) within)
    ∙ sym (append_assoc (gather (k - 1) 0 (listed_reach p m)) (gather n 0 (place_listed p m (k - 1))) (gather (area p - n) n (place_listed p m (k - 1)))))
    ∙ append_assoc (so_far p m k n) (gather (area p - n) n (place_listed p m (k - 1))) (gather (limit - k) k (listed_reach p m))
  where
    back : k ≡ k - 1 + 1
    back = omega arith

-- what is listed after where a series stands
pub standing-rest : (p : Head) (m : List ℕ) (s : Stand) → (s.more ≡ true → Level p s.limit s.number s.place)
    → (cs : List Plunge) × (listing p s.limit m ≡ listed_to p m s ++ cs)
standing-rest p m s level = go s.more refl
  where
    go : (t : Bool) → s.more ≡ t → (cs : List Plunge) × (listing p s.limit m ≡ listed_to p m s ++ cs)
    go true e =
        let l = level e in
        let g = l.place in (
          gather (area p - s.place) s.place (place_listed p m (s.number - 1)) ++ gather (s.limit - s.number) s.number (listed_reach p m),
          so-far-rest p m s.limit s.number s.place l.sides.wide l.some l.last (omega arith)
              ∙ ap (λ (t : Bool). cond t (so_far p m s.number s.place) (listing p s.limit m)
              ++ (gather (area p - s.place) s.place (place_listed p m (s.number - 1)) ++ gather (s.limit - s.number) s.number (listed_reach p m)))
              (sym e),
        )
    go false e = (
      [],
      sym (append-nil (listing p s.limit m))
          ∙ ap (λ (t : Bool). cond t (so_far p m s.number s.place) (listing p s.limit m) ++ []) (sym e),
    )
