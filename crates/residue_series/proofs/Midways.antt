-- Laws of two buffers midway from one erosion to the next: one run more, the next residue, and what the marks of a run stand for.
use mathlib.Core.Path.{◌≡◌, refl, sym, ap, ap₂, ◌∙◌, subst, fun_ext}
use mathlib.Core.Logic.{◌⊎◌, inl, inr}
use mathlib.Core.List.{List, [], ◌∷◌}
use Prim.Native.Nat.{ℕ, suc, ◌+◌, ◌*◌, ◌-◌, ◌%◌, ◌/◌, ◌≤◌, ◌<◌, max}
use native.Mathlib.Omega.{arith}
use native.Mathlib.Decide.{dec_le}
use native.Mathlib.Nat.{mod-lt, div-add-mod', div-lt_iff_lt-mul}
use native.Mathlib.Numerals.{add-one}
use lib.Arith.{digits_div, digits_mod}
use lib.Dec.{ltb}
use mathlib.Core.Bool.{cond}
use lib.ListN.{length, get_or}
use Rattle.geometry.specs.declared.Head.{Head}
use Rattle.geometry.specs.Lists.{gather}
use Rattle.geometry.specs.Plane.{Cell, cell}
use Rattle.geometry.specs.Plate.{On, area, at}
use Rattle.theory.specs.Erosion.{erosion, highest_near, residue}
use Rattle.theory.specs.Climbed.{Bare}
use Rattle.theory.specs.Near.{lowest_near}
use Rattle.theory.proofs.Plate.{on-or-off, at-cell}
use Rattle.theory.proofs.Lists.{gather-same}
use Rattle.theory.proofs.Erosion.{erosion-step, erosion-off}
use Rattle.buffers.specs.Fill.{PlateOnly}
use Rattle.buffers.specs.Margin.{Margin}
use Rattle.erosion_series.proofs.Pairs.{mod_cases, held-margin, kept-none}
use Rattle.residue_sweep.specs.declared.Places.{Places}
use Rattle.residue_sweep.specs.declared.Swept.{Swept}
use Rattle.residue_marks.specs.Marks.{mark_places}
use Rattle.residue_sweep.specs.Sweeps.{place_cell, low_near, high_near, marks_of, SweepBuffers, Sweep}
use Rattle.residue_series.specs.Plunges.{place_listed, plunge_at, on_mark, marks_to}
use Rattle.residue_series.specs.Stands.{Midway, PairMidway, PairToSweep, PairSweep}
use Rattle.residue_series.proofs.Gather.{gather-from}
use Rattle.residue_series.proofs.Plunges.{mark-listed, unmarked-none, erosion-north, erosion-south, row-above, row-beneath}

-- ---- one run

-- a place of a plate is that of one of its cells
pub at_place : (p : Head) → 1 ≤ p.width → (m : List ℕ) (i : ℕ) → i < area p
    → ((x y : ℕ) → x < p.width → y < p.height → y * p.width + x ≡ i → get_or m (y * p.width + x) 0 ≡ 0) → get_or m i 0 ≡ 0
at_place p wide m i h z =
    let e : i / p.width * p.width + i % p.width ≡ i = div-add-mod' i p.width in
    ap (λ (j : ℕ). get_or m j 0) (sym e) ∙ z (i % p.width) (i / p.width) (mod-lt i wide) ((div-lt_iff_lt-mul wide).1 h) e

-- an erosion is 0 along the border from the first on
margin-one : (p : Head) (k : ℕ) (s : List ℕ) → 1 ≤ k → Margin p k s → Margin p 1 s
margin-one p k s h m =
    record {
      west = λ x y a b c. m.west x y a b (omega arith);
      east = λ x y a b c. m.east x y a b (omega arith);
      north = λ x y a b c. m.north x y a b (omega arith);
      south = λ x y a b c. m.south x y a b (omega arith);
    }

module _ (p : Head) (m : List ℕ) (k here n top : ℕ) (prev cur : List ℕ) (mid : Midway p m k here n top prev cur) where
  abbrev w : ℕ
  w = p.width

  near-low : (c : Cell) → lowest_near p.kind (at p cur) c ≡ erosion p m (k + 1) c
  near-low c =
      ap (λ (f : Cell → ℕ). lowest_near p.kind f c) (fun_ext mid.held.holds)
      ∙ sym (erosion-step p m k c) ∙ ap (λ (j : ℕ). erosion p m j c) (sym (add-one k))

  pub midway-margin : 1 ≤ k → Margin p 1 cur
  midway-margin h = margin-one p k cur h (held-margin p m k cur mid.held)

  module _ (number : ℕ) (prev' marks marks' : List ℕ) (deepest t : ℕ)
      (s : Sweep (low_near p cur) (high_near p cur) n number prev prev' marks marks' deepest t) where
    -- a sweep leads on to the place after it
    pub midway-sweep : 1 ≤ w → n + number ≤ area p → (top' : ℕ) → top' ≡ max top t → Midway p m k here (n + number) top' prev' cur
    midway-sweep wide within top' is =
        record {
          held = mid.held;
          low = mid.low;
          long = omega (arith, mid.long, s.next.same);
          ahead = λ x y a b h. written x y a b h (dec_le n (y * w + x));
          behind = λ x y a b h. s.next.over (y * w + x) h ∙ mid.behind x y a b (omega arith);
          under = λ x y a b h. bounded x y a b h (dec_le n (y * w + x));
          bare-here = mid.bare-here;
          bare-top = λ z. omega (
            arith,
            mid.bare-top (λ x y a b h. sym (s.next.under (y * w + x) h) ∙ z x y a b (omega arith)),
            s.bare (λ i a b. at_place p wide prev' i (omega arith)
                (λ x y c d e. z x y c d (omega arith))),
          );
        }
      where
        cell-is : (x y : ℕ) → x < w → place_cell w (y * w + x) ≡ cell x y
        cell-is x y a = ap₂ cell (digits_mod y a) (digits_div y a)

        written : (x y : ℕ) → x < w → y < p.height → y * w + x < n + number → Dec (n ≤ y * w + x)
            → get_or prev' (y * w + x) 0 ≡ erosion p m (k + 1) (cell x y)
        written x y a b h (yes l) = s.next.inside (y * w + x) l h ∙ ap (lowest_near p.kind (at p cur)) (cell-is x y a) ∙ near-low (cell x y)
        written x y a b h (no l) = s.next.under (y * w + x) (omega arith) ∙ mid.ahead x y a b (omega arith)

        bounded : (x y : ℕ) → x < w → y < p.height → y * w + x < n + number → Dec (n ≤ y * w + x) → get_or prev' (y * w + x) 0 ≤ top'
        bounded x y a b h (yes l) = omega (arith, s.under (y * w + x) l h)
        bounded x y a b h (no l) = omega (arith, s.next.under (y * w + x) (omega arith), mid.under x y a b (omega arith))

    module _ (wide : 1 ≤ w) (some : 1 ≤ k) (within : n + number ≤ area p) where
      -- the mark of a place is its plunge
      place-mark : (i : ℕ) → i < number → on_mark (plunge_at w (k - 1)) (n + i) (marks_of (high_near p cur) n prev i) ≡ place_listed p m (k - 1) (n + i)
      unfolding residue
      place-mark i h =
          mark-listed (plunge_at w (k - 1)) (n + i) (get_or prev (n + i) 0) (high_near p cur (n + i))
          ∙ ap₂ (λ (v d : ℕ). cond (ltb 0 v) (plunge_at w (k - 1) (n + i) d ∷ []) []) (ap₂ (λ (u v : ℕ). u - v) depth high) depth
        where
          split : (n + i) / w * w + (n + i) % w ≡ n + i
          split = div-add-mod' (n + i) w

          depth : get_or prev (n + i) 0 ≡ erosion p m (k - 1) (place_cell w (n + i))
          depth =
              ap (λ (j : ℕ). get_or prev j 0) (sym split)
              ∙ mid.behind ((n + i) % w) ((n + i) / w) (mod-lt (n + i) wide) ((div-lt_iff_lt-mul wide).1 (omega arith)) (omega (arith, split))

          next : k ≡ suc (k - 1)
          next = omega arith

          high : high_near p cur (n + i) ≡ highest_near p.kind (erosion p m (suc (k - 1))) (place_cell w (n + i))
          high = ap (λ (f : Cell → ℕ). highest_near p.kind f (place_cell w (n + i))) (fun_ext mid.held.holds)
              ∙ ap (λ (j : ℕ). highest_near p.kind (erosion p m j) (place_cell w (n + i))) next

      -- the marks of a run are its plunges, and none where no mark is above 0
      pub midway-marked : marks_to number (plunge_at w (k - 1)) n marks' ≡ gather number n (place_listed p m (k - 1))
      midway-marked =
          gather-same number 0 _ _
          (λ i a b. ap (on_mark (plunge_at w (k - 1)) (n + i)) (s.marked.inside i a (omega arith)) ∙ place-mark i (omega arith))
          ∙ sym (gather-from (place_listed p m (k - 1)) number n)

      pub midway-none : deepest ≡ 0 → gather number n (place_listed p m (k - 1)) ≡ []
      midway-none z = sym midway-marked ∙ unmarked-none (plunge_at w (k - 1)) n number marks' (λ i h. omega (arith, s.deep i h))

  -- after the last rows that a residue can mark, its turn is over: the buffers stand for the next
  module _ (some : 1 ≤ k) (last : area p ≤ n + (k - 1) * w) where
    all-next : (x y : ℕ) → x < w → y < p.height → Dec (n ≤ y * w + x)
        → (get_or prev (y * w + x) 0 ≡ erosion p m (k + 1) (cell x y)) × (erosion p m (k + 1) (cell x y) ≤ top)
    all-next x y a b (no l) = let e = mid.ahead x y a b (omega arith) in (e, omega (arith, mid.under x y a b (omega arith)))
    all-next x y a b (yes l) =
        let r : p.height ≤ y + (k - 1) = row-beneath w (k - 1) p.height x y a (omega arith) in
        let z : erosion p m (k + 1) (cell x y) ≡ 0 = erosion-south p m (k + 1) x y a b (omega arith) in
        (mid.behind x y a b l ∙ erosion-south p m (k - 1) x y a b r ∙ sym z, omega arith)

    pub midway-next : Midway p m (k + 1) top (k * w) 0 cur prev
    midway-next =
        record {
          held = record { long = mid.long; holds = λ c. held c (on-or-off p c) };
          low = λ c. low c (on-or-off p c);
          long = mid.held.long;
          ahead = λ x y a b h. zero' x y a b h ∙ sym (erosion-north p m (k + 1 + 1) x y (omega (arith, row-above w k x y h)));
          behind = λ x y a b h. sym (at-cell p cur x y a b) ∙ mid.held.holds (cell x y) ∙ ap (λ (j : ℕ). erosion p m j (cell x y)) back;
          under = λ x y a b h. omega (arith, zero' x y a b h);
          bare-here = λ z. mid.bare-top (λ x y a b h. mid.ahead x y a b h ∙ z (cell x y));
          bare-top = λ z. refl;
        }
      where
        back : k ≡ k + 1 - 1
        back = omega arith

        zero' : (x y : ℕ) → x < w → y < p.height → y * w + x < k * w → get_or cur (y * w + x) 0 ≡ 0
        zero' x y a b h = sym (at-cell p cur x y a b) ∙ mid.held.holds (cell x y) ∙ erosion-north p m k x y (row-above w k x y h)

        held : (c : Cell) → On p c ⊎ ((l : List ℕ) → at p l c ≡ 0) → at p prev c ≡ erosion p m (k + 1) c
        held c (inl o) =
            subst (λ d. at p prev d ≡ erosion p m (k + 1) d) (sym o.is)
            (at-cell p prev o.column o.row o.left o.upper
            ∙ (all-next o.column o.row o.left o.upper (dec_le n (o.row * w + o.column))).0)
        held c (inr z) = z prev ∙ sym (erosion-off p m (k + 1) c z)

        low : (c : Cell) → On p c ⊎ ((l : List ℕ) → at p l c ≡ 0) → erosion p m (k + 1) c ≤ top
        low c (inl o) =
            subst (λ d. erosion p m (k + 1) d ≤ top) (sym o.is)
            (all-next o.column o.row o.left o.upper (dec_le n (o.row * w + o.column))).1
        low c (inr z) = omega (arith, erosion-off p m (k + 1) c z)

-- ---- the pair

module _ (p : Head) (m : List ℕ) (k here n top : ℕ) (a b : List ℕ) (q : PairMidway p m k here n top a b) where
  -- what a sweep asks
  pub pair-to-sweep : (s : Places) (marks : List ℕ) → 1 ≤ k → 1 ≤ p.width → s.start + s.number ≤ area p → s.number < mark_places
      → length marks ≡ mark_places → PairToSweep p k s a b marks
  pair-to-sweep s marks some wide within short size =
      record {
        even = λ e. (buffers b a (q.even e), midway-margin p m k here n top b a (q.even e) some);
        odd = λ e. (buffers a b (q.odd e), midway-margin p m k here n top a b (q.odd e) some);
      }
    where
      buffers : (prev cur : List ℕ) → Midway p m k here n top prev cur → SweepBuffers p s prev cur marks
      buffers prev cur i = record { wide = wide; within = within; short = short; before = i.long; after = i.held.long; size = size }

  module _ (s : Places) (a' b' marks marks' : List ℕ) (r : Swept) (e : PairSweep p k s a a' b b' marks marks' r) (at_n : s.start ≡ n) where
    pub pair-swept : 1 ≤ p.width → n + s.number ≤ area p → (top' : ℕ) → top' ≡ max top r.top → PairMidway p m k here (n + s.number) top' a' b'
    pair-swept wide within top' is =
        record {
          even = λ f. subst (λ (l : List ℕ). Midway p m k here (n + s.number) top' b' l) (sym (e.even f).0)
              (midway-sweep p m k here n top b a (q.even f) s.number b' marks marks' r.deepest r.top
              (subst (λ (j : ℕ). Sweep (low_near p a) (high_near p a) j s.number b b' marks marks' r.deepest r.top) at_n (e.even f).1)
              wide within top' is);
          odd = λ f. subst (λ (l : List ℕ). Midway p m k here (n + s.number) top' a' l) (sym (e.odd f).0)
              (midway-sweep p m k here n top a b (q.odd f) s.number a' marks marks' r.deepest r.top
              (subst (λ (j : ℕ). Sweep (low_near p b) (high_near p b) j s.number a a' marks marks' r.deepest r.top) at_n (e.odd f).1)
              wide within top' is);
        }

    pub pair-marked : 1 ≤ p.width → 1 ≤ k → n + s.number ≤ area p
        → (marks_to s.number (plunge_at p.width (k - 1)) n marks' ≡ gather s.number n (place_listed p m (k - 1)))
        × (r.deepest ≡ 0 → gather s.number n (place_listed p m (k - 1)) ≡ [])
    pair-marked wide some within = go (mod_cases k)
      where
        go : (k % 2 ≡ 0) ⊎ (k % 2 ≡ 1)
            → (marks_to s.number (plunge_at p.width (k - 1)) n marks' ≡ gather s.number n (place_listed p m (k - 1)))
            × (r.deepest ≡ 0 → gather s.number n (place_listed p m (k - 1)) ≡ [])
        go (inl f) =
            let t = subst (λ (j : ℕ). Sweep (low_near p a) (high_near p a) j s.number b b' marks marks' r.deepest r.top) at_n (e.even f).1 in (
              midway-marked p m k here n top b a (q.even f) s.number b' marks marks' r.deepest r.top t wide some within,
              midway-none p m k here n top b a (q.even f) s.number b' marks marks' r.deepest r.top t wide some within,
            )
        go (inr f) =
            let t = subst (λ (j : ℕ). Sweep (low_near p b) (high_near p b) j s.number a a' marks marks' r.deepest r.top) at_n (e.odd f).1 in (
              midway-marked p m k here n top a b (q.odd f) s.number a' marks marks' r.deepest r.top t wide some within,
              midway-none p m k here n top a b (q.odd f) s.number a' marks marks' r.deepest r.top t wide some within,
            )

  pub pair-next : 1 ≤ k → area p ≤ n + (k - 1) * p.width → PairMidway p m (k + 1) top (k * p.width) 0 a b
  pair-next some last =
      record {
        even = λ f. midway-next p m k here n top a b (q.odd (omega arith)) some last;
        odd = λ f. midway-next p m k here n top b a (q.even (omega arith)) some last;
      }

  -- an erosion with nothing above 0
  pub pair-zero : here ≡ 0 → Bare p m k
  pair-zero z c = go (mod_cases k)
    where
      go : (k % 2 ≡ 0) ⊎ (k % 2 ≡ 1) → erosion p m k c ≡ 0
      go (inl f) = omega (arith, (q.even f).low c)
      go (inr f) = omega (arith, (q.odd f).low c)

  -- an erosion with something above 0
  pub pair-deep : (here ≡ 0 → ⊥) → Bare p m k → ⊥
  pair-deep d z = d (go (mod_cases k))
    where
      go : (k % 2 ≡ 0) ⊎ (k % 2 ≡ 1) → here ≡ 0
      go (inl f) = (q.even f).bare-here z
      go (inr f) = (q.odd f).bare-here z

-- what a sweep of the pair leaves of its buffers and marks
module _ (p : Head) (k : ℕ) (s : Places) (a a' b b' marks marks' : List ℕ) (r : Swept) (e : PairSweep p k s a a' b b' marks marks' r) where
  pub swept-first : s.start + s.number ≤ area p → PlateOnly p a a'
  swept-first h = go (mod_cases k)
    where
      go : (k % 2 ≡ 0) ⊎ (k % 2 ≡ 1) → PlateOnly p a a'
      go (inl f) = subst (PlateOnly p a) (sym (e.even f).0) (kept-none p a)
      go (inr f) = record { same = (e.odd f).1.next.same; surplus = λ n g. (e.odd f).1.next.over n (omega arith) }

  pub swept-second : s.start + s.number ≤ area p → PlateOnly p b b'
  swept-second h = go (mod_cases k)
    where
      go : (k % 2 ≡ 0) ⊎ (k % 2 ≡ 1) → PlateOnly p b b'
      go (inl f) = record { same = (e.even f).1.next.same; surplus = λ n g. (e.even f).1.next.over n (omega arith) }
      go (inr f) = subst (PlateOnly p b) (sym (e.odd f).0) (kept-none p b)

  pub swept-marks : length marks' ≡ length marks
  swept-marks = go (mod_cases k)
    where
      go : (k % 2 ≡ 0) ⊎ (k % 2 ≡ 1) → length marks' ≡ length marks
      go (inl f) = (e.even f).1.marked.same
      go (inr f) = (e.odd f).1.marked.same
