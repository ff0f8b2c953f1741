-- What the transform's numbers say at the end: the top number less the number is the clearance from the walls of a level, those off the plate included;
-- of a map's own numbers, above 0 is where the map reaches.
use mathlib.Core.Path.{◌≡◌, refl, sym, ap, ◌∙◌}
use mathlib.Core.Logic.{◌⊎◌, inl, inr}
use mathlib.Core.Bool.{Bool, true, false, cond}
use mathlib.Core.List.{List}
use Prim.Native.Nat.{ℕ, suc, ◌+◌, ◌*◌, ◌-◌, ◌≤◌, ◌<◌, max}
use native.Mathlib.Omega.{arith}
use native.Mathlib.Decide.{dec_le}
use borrow.Author.Tests.{ltb-true, lt-ltb, le-ltb, eq-eqb, eqb-true}
use lib.Arith.{digits_lt}
use lib.Dec.{eqb, ltb}
use lib.IntN.{ℤ, pos, negsuc}
use lib.ListN.{get_or}
use Rattle.geometry.specs.declared.Kind.{Kind}
use Rattle.geometry.specs.declared.Kind.TheVariants.{Diamond, Square}
use Rattle.geometry.specs.declared.Head.{Head}
use Rattle.geometry.specs.Plane.{Cell, cell, gap, dist}
use Rattle.geometry.specs.Plate.{On, area, at}
use Rattle.theory.specs.Levels.{clearance, Reached, reconstructed}
use Rattle.theory.proofs.Distance.{dist-sym, dist-tri}
use Rattle.theory.proofs.Balls.{col-near, row_near}
use Rattle.theory.proofs.Plate.{on-or-off}
use Rattle.theory.proofs.Levels.{clearance-unique, reconstructed-one, reconstructed-zero}
use Rattle.buffers.specs.Fill.{Filled, Mapped}
use Rattle.row_arrays.specs.declared.Seeds.{Seeds}
use Rattle.row_arrays.specs.declared.Seeds.TheVariants.{Walls, Numbers}
use Rattle.row_arrays.specs.Start.{wall_seed, wall_number, seed, on_border, start}
use Rattle.row_arrays.proofs.Rows.{row_fits}
use Rattle.refusal.specs.Sides.{Sides}
use Rattle.distance_transform.specs.Transform.{Plates, Propagated, Down, Up, finish, IsLevel, levelled}
use Rattle.distance_transform.proofs.Join.{dist-along}

-- ---- the border

dist-across : (kd : Kind) (x y b : ℕ) → dist kd (cell x y) (cell x b) ≡ gap (pos y) (pos b)
dist-across Diamond x y b = omega arith
dist-across Square x y b = omega arith

-- a cell's side of the plate, if it lies on the border
abbrev Side : Head → ℕ → ℕ → Type 0
Side p x y = (x ≡ 0) ⊎ ((x + 1 ≡ p.width) ⊎ ((y ≡ 0) ⊎ (y + 1 ≡ p.height)))

border-side : (p : Head) (x y : ℕ) → on_border p x y ≡ true → Side p x y
border-side p x y = go (eqb x 0) (eqb (x + 1) p.width) (eqb y 0) refl refl refl
  where
    go : (a b c : Bool) → eqb x 0 ≡ a → eqb (x + 1) p.width ≡ b → eqb y 0 ≡ c
        → cond a true (cond b true (cond c true (eqb (y + 1) p.height))) ≡ true → Side p x y
    go true b c e f g h = inl (eqb-true _ _ e)
    go false true c e f g h = inr (inl (eqb-true _ _ f))
    go false false true e f g h = inr (inr (inl (eqb-true _ _ g)))
    go false false false e f g h = inr (inr (inr (eqb-true _ _ h)))

side-border : (p : Head) (x y : ℕ) → Side p x y → on_border p x y ≡ true
side-border p x y (inl e) = rw (eq-eqb _ _ e)
side-border p x y (inr (inl e)) = go (eqb x 0)
  where
    go : (a : Bool) → cond a true (cond (eqb (x + 1) p.width) true (cond (eqb y 0) true (eqb (y + 1) p.height))) ≡ true
    go true = refl
    go false = rw (eq-eqb _ _ e)
side-border p x y (inr (inr (inl e))) = go (eqb x 0) (eqb (x + 1) p.width)
  where
    go : (a b : Bool) → cond a true (cond b true (cond (eqb y 0) true (eqb (y + 1) p.height))) ≡ true
    go true b = refl
    go false true = refl
    go false false = rw (eq-eqb _ _ e)
side-border p x y (inr (inr (inr e))) = go (eqb x 0) (eqb (x + 1) p.width) (eqb y 0)
  where
    go : (a b c : Bool) → cond a true (cond b true (cond c true (eqb (y + 1) p.height))) ≡ true
    go true b c = refl
    go false true c = refl
    go false false true = refl
    go false false false = eq-eqb _ _ e

-- ---- walls

-- walls of level t that have the number top
module _ (top : ℕ) (p : Head) (m : List ℕ) (t : ℕ) (level : 1 ≤ t) where
  abbrev q : ℕ → ℕ → ℕ
  q = start p (wall_number top t) m

  -- off the plate the number of a wall, a step from it one less
  edge-is : wall_number top t 0 - 1 ≡ top - 1
  edge-is = rw (lt-ltb 0 t level)

  wall-start : (a b : ℕ) → at p m (cell a b) < t → top ≤ q a b
  wall-start a b h = let e : wall_number top t (at p m (cell a b)) ≡ top = rw (lt-ltb _ _ h) in omega arith

  border-start : (a b : ℕ) → Side p a b → top - 1 ≤ q a b
  border-start a b h =
      let e : cond (on_border p a b) (wall_number top t 0 - 1) 0 ≡ top - 1 = rw (side-border p a b h) edge-is in
      omega arith

  -- where a number at the start comes from
  data Start (a b : ℕ) : Type 0 where
    wall : at p m (cell a b) < t → q a b ≤ top → Start a b
    border : Side p a b → q a b ≤ top - 1 → Start a b
    none : q a b ≤ 0 → Start a b

  start-from : (a b : ℕ) → Start a b
  start-from a b = go (ltb (at p m (cell a b)) t) (on_border p a b) refl refl
    where
      go : (i j : Bool) → ltb (at p m (cell a b)) t ≡ i → on_border p a b ≡ j → Start a b
      go true true e g =
          let s : wall_number top t (at p m (cell a b)) ≡ top = rw e in
          let k : cond (on_border p a b) (wall_number top t 0 - 1) 0 ≡ top - 1 = rw g edge-is in
          wall (ltb-true _ _ e) (omega arith)
      go true false e g =
          let s : wall_number top t (at p m (cell a b)) ≡ top = rw e in
          let k : cond (on_border p a b) (wall_number top t 0 - 1) 0 ≡ 0 = rw g in
          wall (ltb-true _ _ e) (omega arith)
      go false true e g =
          let s : wall_number top t (at p m (cell a b)) ≡ 0 = rw e in
          let k : cond (on_border p a b) (wall_number top t 0 - 1) 0 ≡ top - 1 = rw g edge-is in
          border (border-side p a b g) (omega arith)
      go false false e g =
          let s : wall_number top t (at p m (cell a b)) ≡ 0 = rw e in
          let k : cond (on_border p a b) (wall_number top t 0 - 1) 0 ≡ 0 = rw g in
          none (omega arith)

  -- from a cell of the border, a step off the plate
  record Beyond (a b : ℕ) : Type 0 where
    out : Cell
    off : at p m out ≡ 0
    step : dist p.kind (cell a b) out ≤ 1

  beyond : (a b : ℕ) → a < p.width → Side p a b → Beyond a b
  beyond a b l (inl e) = record { out = record { col = negsuc 0; row = pos b }; off = refl; step = go p.kind }
    where
      go : (kd : Kind) → dist kd (cell a b) (record { col = negsuc 0; row = pos b }) ≤ 1
      go Diamond = omega arith
      go Square = omega arith
  beyond a b l (inr (inl e)) = record {
    out = cell p.width b;
    off = let g : p.width ≤ p.width = omega arith in rw (le-ltb _ _ g);
    step =
        omega (arith, dist-along p.kind a p.width b);
  }
  beyond a b l (inr (inr (inl e))) = record { out = record { col = pos a; row = negsuc 0 }; off = refl; step = go p.kind }
    where
      go : (kd : Kind) → dist kd (cell a b) (record { col = pos a; row = negsuc 0 }) ≤ 1
      go Diamond = omega arith
      go Square = omega arith
  beyond a b l (inr (inr (inr e))) = record {
    out = cell a p.height;
    off = let g : p.height ≤ p.height = omega arith in
        rw (lt-ltb _ _ l, le-ltb _ _ g);
    step = omega (arith, dist-across p.kind a b p.height);
  }

  module _ (x y : ℕ) (left : x < p.width) (upper : y < p.height) where
    -- towards a cell off the plate, a cell of the border one nearer
    record Towards (d : Cell) : Type 0 where
      column : ℕ
      row : ℕ
      in-width : column < p.width
      in-height : row < p.height
      side : Side p column row
      nearer : suc (dist p.kind (cell x y) (cell column row)) ≤ dist p.kind (cell x y) d

    towards : (d : Cell) → On p d ⊎ Towards d
    towards d = go d.col d.row refl refl
      where
        beside : (a : ℕ) → a < p.width → Side p a y → suc (gap (pos x) (pos a)) ≤ gap (pos x) d.col → Towards d
        beside a l s g = record {
          column = a;
          row = y;
          in-width = l;
          in-height = upper;
          side = s;
          nearer =
              omega (arith, dist-along p.kind x a y, col-near p.kind (cell x y) d);
        }

        above : (b : ℕ) → b < p.height → Side p x b → suc (gap (pos y) (pos b)) ≤ gap (pos y) d.row → Towards d
        above b l s g = record {
          column = x;
          row = b;
          in-width = left;
          in-height = l;
          side = s;
          nearer =
              omega (arith, dist-across p.kind x y b, row_near p.kind (cell x y) d);
        }

        plate : (a b : ℕ) → d.col ≡ pos a → d.row ≡ pos b → Dec (suc a ≤ p.width) → Dec (suc b ≤ p.height) → On p d ⊎ Towards d
        plate a b e g (yes h) (yes l) = inl (record { column = a; row = b; is = λ i. record { col = e i; row = g i }; left = h; upper = l })
        plate a b e g (yes h) (no l) = inr (above (p.height - 1) (omega arith) (inr (inr (inr (omega arith)))) (omega (arith, ap (gap (pos y)) g)))
        plate a b e g (no h) l = inr (beside (p.width - 1) (omega arith) (inr (inl (omega arith))) (omega (arith, ap (gap (pos x)) e)))

        go : (a b : ℤ) → d.col ≡ a → d.row ≡ b → On p d ⊎ Towards d
        go (negsuc a) b e g = inr (beside 0 (omega arith) (inl refl) (omega (arith, ap (gap (pos x)) e)))
        go (pos a) (negsuc b) e g = inr (above 0 (omega arith) (inr (inr (inl refl))) (omega (arith, ap (gap (pos y)) g)))
        go (pos a) (pos b) e g = plate a b e g (dec_le (suc a) p.width) (dec_le (suc b) p.height)

    module _ (narrow : p.width < top) (v : ℕ) (s : Propagated p.kind p.width (λ b. b < p.height) q x y v) where
      low : (d : Cell) → at p m d < t → On p d ⊎ Towards d → top - v ≤ dist p.kind (cell x y) d
      low d h (inl o) =
          omega (
            arith,
            wall-start o.column o.row (omega (arith, ap (at p m) o.is)),
            s.bound o.column o.row o.left o.upper,
            ap (dist p.kind (cell x y)) o.is,
          )
      low d h (inr r) = omega (arith, border-start r.column r.row r.side, s.bound r.column r.row r.in-width r.in-height, r.nearer)

      -- the plate's own border is near enough that the number is above 0
      above_zero : 1 ≤ v
      above_zero = omega (arith, narrow, border-start 0 y (inl refl), s.bound 0 y (omega arith) upper, dist-along p.kind x 0 y)

      abbrev Met : Type 0
      Met = (o : Cell) × (at p m o < t) × (dist p.kind (cell x y) o ≡ top - v)

      met : (v ≡ 0) ⊎ ((a : ℕ) × (b : ℕ) × (a < p.width) × (b < p.height) × (v + dist p.kind (cell x y) (cell a b) ≤ q a b)) → Met
      met (inl z) = absurd (omega (arith, above_zero))
      met (inr (a, b, h, l, g)) = go (start-from a b)
        where
          go : Start a b → Met
          go (wall i k) = (cell a b, i, omega (arith, low (cell a b) i (towards (cell a b))))
          go (border i k) =
              let o = beyond a b h i in (
                o.out,
                omega (arith, o.off),
                omega (arith, low o.out (omega (arith, o.off)) (towards o.out), o.step, dist-tri p.kind (cell x y) (cell a b) o.out),
              )
          go (none k) = absurd (omega (arith, above_zero))

      pub walls-clearance : top - v ≡ clearance p m t (cell x y)
      walls-clearance = clearance-unique p m t level (cell x y) (top - v) (record { bound = λ d h. low d h (towards d); met = met s.met })

-- ---- numbers

no-border : (n : ℕ) (b : Bool) → max n (cond b (0 - 1) 0) ≡ n
no-border n true = omega arith
no-border n false = omega arith

-- a map's own numbers start as they are: cells off the plate have none
pub start-numbers : (p : Head) (m : List ℕ) (a b : ℕ) → start p (λ n. n) m a b ≡ at p m (cell a b)
start-numbers p m a b = no-border (at p m (cell a b)) (on_border p a b)

module _ (p : Head) (m : List ℕ) (x y : ℕ) (v : ℕ) (s : Propagated p.kind p.width (λ b. b < p.height) (start p (λ n. n) m) x y v) where
  not-reached : v ≡ 0 → Reached p m (cell x y) → ⊥
  not-reached z (o, h) = go (on-or-off p o)
    where
      go : On p o ⊎ ((n : List ℕ) → at p n o ≡ 0) → ⊥
      go (inl i) =
          omega (
            arith,
            s.bound i.column i.row i.left i.upper,
            start-numbers p m i.column i.row,
            ap (at p m) i.is,
            ap (dist p.kind (cell x y)) i.is,
            dist-sym p.kind o (cell x y),
          )
      go (inr n) = omega (arith, n m)

  reached : 1 ≤ v → (v ≡ 0) ⊎ ((a : ℕ) × (b : ℕ) × (a < p.width) × (b < p.height)
      × (v + dist p.kind (cell x y) (cell a b) ≤ start p (λ n. n) m a b)) → Reached p m (cell x y)
  reached h (inl z) = absurd (omega arith)
  reached h (inr (a, b, i, j, g)) = (cell a b, omega (arith, start-numbers p m a b, dist-sym p.kind (cell a b) (cell x y)))

  pub numbers-reconstructed : finish Numbers v ≡ reconstructed p m (cell x y)
  numbers-reconstructed = go (dec_le 1 v)
    where
      go : Dec (1 ≤ v) → finish Numbers v ≡ reconstructed p m (cell x y)
      go (yes h) = rw (lt-ltb 0 v h) (sym ((reconstructed-one p m (cell x y)).1 (reached h s.met)))
      go (no h) = let z : v ≡ 0 = omega arith in let l : v ≤ 0 = omega arith in rw (le-ltb 0 v l) (sym ((reconstructed-zero p m (cell x y)).1 (not-reached z)))

-- ---- both

pub finished : (p : Head) (s : Seeds) (m : List ℕ) (x y v : ℕ) → Sides p → IsLevel s → x < p.width → y < p.height
    → Propagated p.kind p.width (λ b. b < p.height) (start p (seed s) m) x y v → finish s v ≡ levelled p s m (cell x y)
finished p (Walls t) m x y v sides level h l s = walls-clearance wall_seed p m t level x y h l (omega (arith, sides.narrow, row_fits.above)) v s
finished p Numbers m x y v sides level h l s = numbers-reconstructed p m x y v s

-- the way down, the way up and the end
pub transformed : (p : Head) (s : Seeds) (m old down up new : List ℕ) → Plates p m old → IsLevel s → Down p (start p (seed s) m) old down → Up p down up
    → Filled (λ n. finish s (get_or up n 0)) 0 (area p) up new → Mapped p (levelled p s m) old new
transformed p s m old down up new f level d u h =
    record {
      same = h.same ∙ u.kept.same ∙ d.kept.same;
      holds = λ x y a b. h.inside (y * p.width + x) (omega arith) (digits_lt b a) ∙ finished p s m x y (get_or up (y * p.width + x) 0) f.sides
          level a b (u.rows (start p (seed s) m) d.rows y b x a);
      surplus = λ n g. h.over n g ∙ u.kept.surplus n g ∙ d.kept.surplus n g;
    }
