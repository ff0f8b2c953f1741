-- One level: clearance is the distance to the nearest cell not in the shape; it exceeds k exactly where the erosion by k keeps the level;
-- the medial axis, reconstructed, is the shape, and its cells are exactly the centres of the maximal balls.
use mathlib.Core.Path.{◌≡◌, refl, sym, ap, ◌∙◌, subst}
use mathlib.Core.Logic.{◌⊎◌, inl, inr, ◌↔◌}
use mathlib.Core.Bool.{Bool, true, false, cond}
use mathlib.Core.List.Memᴰ
use mathlib.Core.List.{List, ◌∷◌, map, Memᴰ}
use Prim.Native.Nat.{ℕ, zero, suc, ◌+◌, ◌*◌, ◌-◌, ◌≤◌, ◌<◌, min}
use native.Mathlib.Omega.{arith}
use native.Mathlib.Decide.{dec_le}
use borrow.Author.Tests.{ltb-true, ltb-false, lt-ltb, le-ltb, leb-true, leb-false}
use lib.Dec.{leb, ltb}
use lib.IntN.{ℤ, pos, negsuc}
use Rattle.geometry.specs.declared.Kind.{Kind}
use Rattle.geometry.specs.declared.Kind.TheVariants.{Diamond, Square}
use Rattle.geometry.specs.declared.Head.{Head}
use Rattle.geometry.specs.Lists.{Lowest, any}
use Rattle.geometry.specs.Plane.{Cell, cell, gap, dist, Ball, neighbours}
use Rattle.geometry.specs.Plate.{On, at, cells, framed, tabulated}
use Rattle.theory.specs.Erosion.{erosion}
use Rattle.theory.specs.Levels.{Shape, IsClearance, walls, corner, clearance, axis, Reached, reconstructed, MaximalBall}
use Rattle.theory.proofs.Lists.{select_in, select-out, any-true, any_false, min-choice, fold-extreme, lowest-unique}
use Rattle.theory.proofs.Distance.{gap-self, dist-self, dist-sym, dist-tri, dist-zero, near, step, window}
use Rattle.theory.proofs.Balls.{within-sum, sum-within}
use Rattle.theory.proofs.Plate.{Edge, on-or-off, cells_in, framed-in, at-tabulated-plane}
use Rattle.theory.proofs.Erosion.{erosion-is, erosion-zero, erosion-top}

-- ---- from a cell of the plate, no cell off the plate is nearer than the ring

module _ (p : Head) (x y : ℕ) (left : x < p.width) (upper : y < p.height) where
  -- d is on the plate, or some cell of the ring is as near
  record Ring (d : Cell) : Type 0 where
    cell' : Cell
    framed' : Memᴰ cell' (framed p)
    off : (n : List ℕ) → at p n cell' ≡ 0
    nearer : dist p.kind (cell x y) cell' ≤ dist p.kind (cell x y) d

  across : (kd : Kind) (z : ℤ) (d : Cell) → gap (pos x) z ≤ gap (pos x) d.col → dist kd (cell x y) (record { col = z; row = pos y }) ≤ dist kd (cell x y) d
  across Diamond z d h = omega (arith, gap-self (pos y))
  across Square z d h = omega (arith, gap-self (pos y))

  down : (kd : Kind) (z : ℤ) (d : Cell) → gap (pos y) z ≤ gap (pos y) d.row → dist kd (cell x y) (record { col = pos x; row = z }) ≤ dist kd (cell x y) d
  down Diamond z d h = omega (arith, gap-self (pos x))
  down Square z d h = omega (arith, gap-self (pos x))

  here-col : Edge p.width (pos x)
  here-col = inr (x, omega arith, refl)

  here-row : Edge p.height (pos y)
  here-row = inr (y, omega arith, refl)

  ring : (d : Cell) → On p d ⊎ Ring d
  ring d = go d.col d.row refl refl
    where
      west : (a : ℕ) → d.col ≡ negsuc a → Ring d
      west a e =
          record {
            cell' = record { col = negsuc 0; row = pos y };
            framed' = framed-in p (negsuc 0) (pos y) (inl refl) here-row;
            off = λ n. refl;
            nearer = across p.kind (negsuc 0) d (omega (arith, ap (gap (pos x)) e));
          }

      east : (a : ℕ) → d.col ≡ pos a → p.width ≤ a → Ring d
      east a e g =
          record {
            cell' = cell p.width y;
            framed' = framed-in p (pos p.width) (pos y) (inr (p.width, omega arith, refl)) here-row;
            off = λ n. let l : p.width ≤ p.width = omega arith in rw (le-ltb _ _ l);
            nearer = across p.kind (pos p.width) d (omega (arith, ap (gap (pos x)) e));
          }

      north : (b : ℕ) → d.row ≡ negsuc b → Ring d
      north b e =
          record {
            cell' = record { col = pos x; row = negsuc 0 };
            framed' = framed-in p (pos x) (negsuc 0) here-col (inl refl);
            off = λ n. refl;
            nearer = down p.kind (negsuc 0) d (omega (arith, ap (gap (pos y)) e));
          }

      south : (b : ℕ) → d.row ≡ pos b → p.height ≤ b → Ring d
      south b e g =
          record {
            cell' = cell x p.height;
            framed' = framed-in p (pos x) (pos p.height) here-col (inr (p.height, omega arith, refl));
            off = λ n. let l : p.height ≤ p.height = omega arith in rw (lt-ltb _ _ left, le-ltb _ _ l);
            nearer = down p.kind (pos p.height) d (omega (arith, ap (gap (pos y)) e));
          }

      plate : (a b : ℕ) → d.col ≡ pos a → d.row ≡ pos b → Dec (suc a ≤ p.width) → Dec (suc b ≤ p.height) → On p d ⊎ Ring d
      plate a b e g (yes h) (yes l) = inl (record { column = a; row = b; is = λ i. record { col = e i; row = g i }; left = h; upper = l })
      plate a b e g (yes h) (no l) = inr (south b g (omega arith))
      plate a b e g (no h) l = inr (east a e (omega arith))

      go : (a b : ℤ) → d.col ≡ a → d.row ≡ b → On p d ⊎ Ring d
      go (negsuc a) b e g = inr (west a e)
      go (pos a) (negsuc b) e g = inr (north b g)
      go (pos a) (pos b) e g = plate a b e g (dec_le (suc a) p.width) (dec_le (suc b) p.height)

on-framed : (p : Head) (d : Cell) → On p d → Memᴰ d (framed p)
on-framed p d o = Memᴰ.cast o.is (framed-in p (pos o.column) (pos o.row) (inr (o.column, omega (arith, o.left), refl))
    (inr (o.row, omega (arith, o.upper), refl)))

-- ---- clearance

module _ (p : Head) (m : List ℕ) (t : ℕ) (level : 1 ≤ t) where
  wall-in : (d : Cell) → Memᴰ d (framed p) → at p m d < t → Memᴰ d (walls p m t)
  wall-in d n h = select_in (λ o. ltb (at p m o) t) (framed p) n (lt-ltb _ _ h)

  -- the nearest of the walls is the nearest of all cells not in the shape
  nearest : (x y : ℕ) → x < p.width → y < p.height → (v : ℕ)
      → Lowest (λ o. Memᴰ o (corner ∷ walls p m t)) (dist p.kind (cell x y)) v → Lowest (λ o. at p m o < t) (dist p.kind (cell x y)) v
  nearest x y left upper v e = record { bound = λ d h. low d h (ring p x y left upper d); met = (e.met.0, wall e.met.0 e.met.1, e.met.2) }
    where
      wall : (o : Cell) → Memᴰ o (corner ∷ walls p m t) → at p m o < t
      wall o (Memᴰ.head g) = omega (arith, ap (at p m) g)
      wall o (Memᴰ.tail n) = ltb-true _ _ (select-out (λ o. ltb (at p m o) t) (framed p) n).1

      low : (d : Cell) → at p m d < t → On p d ⊎ Ring p x y left upper d → v ≤ dist p.kind (cell x y) d
      low d h (inl o) = e.bound d (Memᴰ.tail (wall-in d (on-framed p d o) h))
      low d h (inr r) = omega (arith, e.bound r.cell' (Memᴰ.tail (wall-in r.cell' r.framed' (omega (arith, r.off m)))), r.nearer)

  -- the clearance is the distance to the nearest cell not in the shape, over all cells of the plane
  pub clearance-is : (c : Cell) → IsClearance p m t c (clearance p m t c)
  unfolding clearance
  clearance-is c = go (leb t (at p m c)) refl
    where
      in-shape : On p c → Lowest (λ o. at p m o < t) (dist p.kind c)
          (Rattle.geometry.specs.Lists.lowest (dist p.kind c corner) (map (dist p.kind c) (walls p m t)))
      in-shape o =
          subst (λ d. Lowest (λ o. at p m o < t) (dist p.kind d)
          (Rattle.geometry.specs.Lists.lowest (dist p.kind d corner) (map (dist p.kind d) (walls p m t)))) (sym o.is)
          (nearest o.column o.row o.left o.upper _ (fold-extreme min-choice (dist p.kind (cell o.column o.row)) corner (walls p m t)))

      on : t ≤ at p m c → On p c ⊎ ((n : List ℕ) → at p n c ≡ 0) → On p c
      on h (inl o) = o
      on h (inr z) = absurd (omega (arith, z m))

      go : (b : Bool) → leb t (at p m c) ≡ b → IsClearance p m t c
          (cond b (Rattle.geometry.specs.Lists.lowest (dist p.kind c corner) (map (dist p.kind c) (walls p m t))) 0)
      go true e = in-shape (on (leb-true _ _ e) (on-or-off p c))
      go false e = record { bound = λ d h. omega arith; met = (c, leb-false _ _ e, dist-self p.kind c) }

  -- and no other number is
  pub clearance-unique : (c : Cell) (v : ℕ) → IsClearance p m t c v → v ≡ clearance p m t c
  clearance-unique c v h = lowest-unique (λ o. at p m o < t) (dist p.kind c) v (clearance p m t c) h (clearance-is c)

  -- source 000: "radius is one less" than the distance, "the cell survives k shrinkings when its distance exceeds k"
  pub clearance-erosion : (k : ℕ) (c : Cell) → (k < clearance p m t c) ↔ (t ≤ erosion p m k c)
  clearance-erosion k c = ((λ h. to h (dec_le t (erosion p m k c))), λ h. from h (dec_le (clearance p m t c) k))
    where
      to : k < clearance p m t c → Dec (t ≤ erosion p m k c) → t ≤ erosion p m k c
      to h (yes g) = g
      to h (no g) = let s = (erosion-is p m k c).met in absurd (omega (arith, (clearance-is c).bound s.0 (omega (arith, s.2)), s.1))

      from : t ≤ erosion p m k c → Dec (clearance p m t c ≤ k) → k < clearance p m t c
      from h (no g) = omega arith
      from h (yes g) = let s = (clearance-is c).met in absurd (omega (arith, (erosion-is p m k c).bound s.0 (omega (arith, s.2)), s.1))

  pub clearance-outside : (c : Cell) → at p m c < t → clearance p m t c ≡ 0
  clearance-outside c h = omega (arith, (clearance-is c).bound c h, dist-self p.kind c)

  pub clearance-inside : (c : Cell) → (1 ≤ clearance p m t c) ↔ Shape p m t c
  clearance-inside c = ((λ h. omega (arith, (clearance-erosion 0 c).0 h, erosion-zero p m c)), λ h. (clearance-erosion 0 c).1 (omega (arith, erosion-zero p m c)))

  pub clearance-off : (c : Cell) → ((n : List ℕ) → at p n c ≡ 0) → clearance p m t c ≡ 0
  clearance-off c z = clearance-outside c (omega (arith, z m))

  -- from one cell to another the clearance changes by at most their distance
  pub clearance-apart : (c d : Cell) → clearance p m t c ≤ dist p.kind c d + clearance p m t d
  clearance-apart c d = let s = (clearance-is d).met in omega (arith, (clearance-is c).bound s.0 s.1, s.2, dist-tri p.kind c d s.0)

  -- a clearance is at most half the smaller side, rounded up
  pub clearance-limit : (limit : ℕ) → min p.width p.height ≤ 2 * limit → (c : Cell) → clearance p m t c ≤ limit
  clearance-limit limit s c = go (dec_le (clearance p m t c) limit)
    where
      go : Dec (clearance p m t c ≤ limit) → clearance p m t c ≤ limit
      go (yes h) = h
      go (no h) = absurd (omega (arith, (clearance-erosion limit c).0 (omega arith), erosion-top p m limit s c))

  -- a ball lies in the shape exactly when its reach is below the clearance of its centre
  pub ball-in-shape : (c : Cell) (r : ℕ) → ((o : Cell) → Ball p.kind c r o → Shape p m t o) ↔ (r < clearance p m t c)
  ball-in-shape c r = ((λ h. go h (dec_le (clearance p m t c) r)), λ h o g. under h o g (dec_le t (at p m o)))
    where
      go : ((o : Cell) → Ball p.kind c r o → Shape p m t o) → Dec (clearance p m t c ≤ r) → r < clearance p m t c
      go h (no g) = omega arith
      go h (yes g) = let s = (clearance-is c).met in absurd (omega (arith, h s.0 (omega (arith, s.2)), s.1))

      under : r < clearance p m t c → (o : Cell) → dist p.kind c o ≤ r → Dec (t ≤ at p m o) → t ≤ at p m o
      under h o g (yes l) = l
      under h o g (no l) = absurd (omega (arith, (clearance-is c).bound o (omega arith)))

  -- ---- the medial axis

  abbrev None-larger : Cell → Type 0
  None-larger c = (n : Cell) → Memᴰ n (neighbours p.kind c) → clearance p m t n ≤ clearance p m t c

  abbrev Some-larger : Cell → Type 0
  Some-larger c = (n : Cell) × Memᴰ n (neighbours p.kind c) × (clearance p m t c < clearance p m t n)

  -- kept where no neighbour's clearance is larger, 0 where one is
  axis-cases : (c : Cell) → ((axis p m t c ≡ clearance p m t c) × None-larger c) ⊎ ((axis p m t c ≡ 0) × Some-larger c)
  unfolding axis
  axis-cases c = go (any larger (neighbours p.kind c)) refl
    where
      larger : Cell → Bool
      larger n = ltb (clearance p m t c) (clearance p m t n)

      go : (b : Bool) → any larger (neighbours p.kind c) ≡ b → ((cond b 0 (clearance p m t c) ≡ clearance p m t c) × None-larger c)
          ⊎ ((cond b 0 (clearance p m t c) ≡ 0) × Some-larger c)
      go true e = let s = any-true larger (neighbours p.kind c) e in inr (refl, (s.0, s.1, ltb-true _ _ s.2))
      go false e = inl (refl, λ n w. ltb-false _ _ (any_false larger (neighbours p.kind c) e w))

  pub axis-kept : (c : Cell) → None-larger c → axis p m t c ≡ clearance p m t c
  axis-kept c h = go (axis-cases c)
    where
      go : ((axis p m t c ≡ clearance p m t c) × None-larger c) ⊎ ((axis p m t c ≡ 0) × Some-larger c) → axis p m t c ≡ clearance p m t c
      go (inl a) = a.0
      go (inr a) = absurd (omega (arith, h a.1.0 a.1.1, a.1.2))

  pub axis-above : (c : Cell) → 1 ≤ axis p m t c → (axis p m t c ≡ clearance p m t c) × None-larger c
  axis-above c h = go (axis-cases c)
    where
      go : ((axis p m t c ≡ clearance p m t c) × None-larger c) ⊎ ((axis p m t c ≡ 0) × Some-larger c) → (axis p m t c ≡ clearance p m t c) × None-larger c
      go (inl a) = a
      go (inr a) = absurd (omega (arith, a.0))

  -- no more than the clearance, so 0 where that is
  pub axis-le : (c : Cell) → axis p m t c ≤ clearance p m t c
  axis-le c = go (dec_le 1 (axis p m t c))
    where
      go : Dec (1 ≤ axis p m t c) → axis p m t c ≤ clearance p m t c
      go (yes h) = omega (arith, (axis-above c h).0)
      go (no h) = omega arith

  pub at-axis : (c : Cell) → at p (tabulated p (axis p m t)) c ≡ axis p m t c
  at-axis c = at-tabulated-plane p (axis p m t) (λ d z. omega (arith, axis-le d, clearance-off d z)) c

  -- source 000, definition 1, and its words before it agree: axis cells are the centres of maximal balls, and the axis has their reach plus 1
  pub axis-iff-maximal : (c : Cell) (r : ℕ) → (axis p m t c ≡ suc r) ↔ MaximalBall p m t c r
  axis-iff-maximal c r = (to, from)
    where
      to : axis p m t c ≡ suc r → MaximalBall p m t c r
      to e = record {
        contained = (ball-in-shape c r).1 (omega (arith, a.0));
        alone =
            λ d s inner w. only d s ((ball-in-shape d s).0 inner) (within-sum p.kind c r d s w) (dec_le s r);
      }
        where
          a : (axis p m t c ≡ clearance p m t c) × None-larger c
          a = axis-above c (omega arith)

          beside : (n : Cell) → Memᴰ n (window p.kind c) → clearance p m t n ≤ clearance p m t c
          beside n (Memᴰ.head g) = omega (arith, ap (clearance p m t) g)
          beside n (Memᴰ.tail w) = a.1 n w

          only : (d : Cell) (s : ℕ) → s < clearance p m t d → dist p.kind c d + r ≤ s → Dec (s ≤ r) → (d ≡ c) × (s ≡ r)
          only d s h g (yes l) = (sym (dist-zero p.kind c d (omega arith)), omega arith)
          only d s h g (no l) =
              let n = step p.kind c d (s - r - 1) (omega arith) in
              absurd (omega (arith, beside n.0 n.1, clearance-apart d n.0, dist-sym p.kind d n.0, n.2, a.0))

      from : MaximalBall p m t c r → axis p m t c ≡ suc r
      from b = axis-kept c beside ∙ own
        where
          larger : (d : Cell) → dist p.kind c d ≤ 1 → suc r < clearance p m t d → ⊥
          larger d g h = omega (arith, (b.alone d (suc r) ((ball-in-shape d (suc r)).1 h) (sum-within p.kind c r d (suc r) (omega arith))).1)

          least : r < clearance p m t c
          least = (ball-in-shape c r).0 b.contained

          own : clearance p m t c ≡ suc r
          own = go (dec_le (clearance p m t c) (suc r))
            where
              go : Dec (clearance p m t c ≤ suc r) → clearance p m t c ≡ suc r
              go (yes h) = omega (arith, least)
              go (no h) = absurd (larger c (omega (arith, dist-self p.kind c)) (omega arith))

          beside : (n : Cell) → Memᴰ n (neighbours p.kind c) → clearance p m t n ≤ clearance p m t c
          beside n w = go (dec_le (clearance p m t n) (clearance p m t c))
            where
              go : Dec (clearance p m t n ≤ clearance p m t c) → clearance p m t n ≤ clearance p m t c
              go (yes h) = h
              go (no h) = absurd (larger n (near p.kind c (Memᴰ.tail w)) (omega (arith, least)))

-- ---- reconstruction

module _ (p : Head) (m : List ℕ) (c : Cell) where
  -- 1 exactly where some cell of the plane has a number above its distance, else 0
  pub reconstructed-one : (reconstructed p m c ≡ 1) ↔ Reached p m c
  unfolding reconstructed
  reconstructed-one = go (any (λ o. ltb (dist p.kind o c) (at p m o)) (cells p)) refl
    where
      on : (o : Cell) → dist p.kind o c < at p m o → On p o ⊎ ((n : List ℕ) → at p n o ≡ 0) → On p o
      on o h (inl w) = w
      on o h (inr z) = absurd (omega (arith, z m))

      go : (b : Bool) → any (λ o. ltb (dist p.kind o c) (at p m o)) (cells p) ≡ b → (◌≡◌ {A = ℕ} (cond b 1 0) 1) ↔ Reached p m c
      go true e = ((λ h. let s = any-true (λ o. ltb (dist p.kind o c) (at p m o)) (cells p) e in (s.0, ltb-true _ _ s.2)), λ h. refl)
      go false e = (
        (λ h. absurd (omega arith)),
        λ h. absurd (omega (
          arith,
          h.1,
          ltb-false (dist p.kind h.0 c) (at p m h.0)
              (any_false (λ o. ltb (dist p.kind o c) (at p m o)) (cells p) e (cells_in p (on h.0 h.1 (on-or-off p h.0)))),
        )),
      )

  one_or_zero : (reconstructed p m c ≡ 1) ⊎ (reconstructed p m c ≡ 0)
  unfolding reconstructed
  one_or_zero = go (any (λ o. ltb (dist p.kind o c) (at p m o)) (cells p))
    where
      go : (b : Bool) → (◌≡◌ {A = ℕ} (cond b 1 0) 1) ⊎ (◌≡◌ {A = ℕ} (cond b 1 0) 0)
      go true = inl refl
      go false = inr refl

  pub reconstructed-zero : (reconstructed p m c ≡ 0) ↔ (Reached p m c → ⊥)
  reconstructed-zero = ((λ e h. omega (arith, reconstructed-one.1 h)), λ h. go h one_or_zero)
    where
      go : (Reached p m c → ⊥) → (reconstructed p m c ≡ 1) ⊎ (reconstructed p m c ≡ 0) → reconstructed p m c ≡ 0
      go h (inl e) = absurd (h (reconstructed-one.0 e))
      go h (inr e) = e

module _ (p : Head) (m : List ℕ) (t : ℕ) (level : 1 ≤ t) where
  -- from a cell whose ball reaches c, go on to larger clearances, of which the limit is the last
  reach-axis : (limit : ℕ) → min p.width p.height ≤ 2 * limit → (n : ℕ) (c o : Cell) → limit ≤ clearance p m t o + n
      → dist p.kind o c < clearance p m t o → (a : Cell) × (dist p.kind a c < axis p m t a)
  reach-axis limit s zero c o g h = go (axis-cases p m t level o)
    where
      go : ((axis p m t o ≡ clearance p m t o) × None-larger p m t level o) ⊎ ((axis p m t o ≡ 0) × Some-larger p m t level o) → (a : Cell)
          × (dist p.kind a c < axis p m t a)
      go (inl e) = (o, omega (arith, e.0))
      go (inr r) = absurd (omega (arith, r.1.2, clearance-limit p m t level limit s r.1.0))
  reach-axis limit s (suc n) c o g h = go (axis-cases p m t level o) (reach-axis limit s n c)
    where
      go : ((axis p m t o ≡ clearance p m t o) × None-larger p m t level o) ⊎ ((axis p m t o ≡ 0) × Some-larger p m t level o)
          → ((o : Cell) → limit ≤ clearance p m t o + n → dist p.kind o c < clearance p m t o → (a : Cell) × (dist p.kind a c < axis p m t a))
          → (a : Cell) × (dist p.kind a c < axis p m t a)
      go (inl e) ih = (o, omega (arith, e.0))
      go (inr r) ih =
          let n' = r.1.0 in
          ih n' (omega (arith, r.1.2)) (omega
          (arith, r.1.2, near p.kind o (Memᴰ.tail r.1.1), dist-sym p.kind o n', dist-tri p.kind n' o c))

  -- the axis of a level, reconstructed, is that level's shape
  pub axis-reconstructs : (c : Cell) → reconstructed p (tabulated p (axis p m t)) c ≡ cond (leb t (at p m c)) 1 0
  axis-reconstructs c = go (leb t (at p m c)) refl
    where
      inside : t ≤ at p m c → Reached p (tabulated p (axis p m t)) c
      inside h =
          let r = reach-axis p.width (omega arith) p.width c c (omega arith)
          (omega (arith, dist-self p.kind c, (clearance-inside p m t level c).1 h)) in
          (r.0, omega (arith, r.1, at-axis p m t level r.0))

      outside : at p m c < t → Reached p (tabulated p (axis p m t)) c → ⊥
      outside h r = omega (arith, r.1, at-axis p m t level r.0, axis-le p m t level r.0, (clearance-is p m t level r.0).bound c h)

      go : (b : Bool) → leb t (at p m c) ≡ b → reconstructed p (tabulated p (axis p m t)) c ≡ cond b 1 0
      go true e = (reconstructed-one p (tabulated p (axis p m t)) c).1 (inside (leb-true _ _ e))
      go false e = (reconstructed-zero p (tabulated p (axis p m t)) c).1 (outside (leb-false _ _ e))
