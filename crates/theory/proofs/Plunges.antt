-- What a plunge's tests mean over all cells of the plane: covers, inside, its ball on the plate.
use mathlib.Core.Path.{◌≡◌, refl, ap}
use mathlib.Core.Logic.{◌↔◌}
use mathlib.Core.Bool.{Bool, true, false, cond}
use Prim.Native.Nat.{ℕ, ◌+◌, ◌-◌, ◌≤◌, ◌<◌}
use native.Mathlib.Omega.{arith}
use native.Mathlib.Decide.{dec_le}
use borrow.Author.Tests.{leb-true, ltb-true, le-leb, lt-ltb}
use lib.Dec.{leb, ltb}
use lib.IntN.{ℤ, pos, negsuc}
use Rattle.geometry.specs.declared.Kind.{Kind}
use Rattle.geometry.specs.declared.Kind.TheVariants.{Diamond, Square}
use Rattle.geometry.specs.declared.Head.{Head}
use Rattle.geometry.specs.declared.Plunge.{Plunge}
use Rattle.geometry.specs.Plane.{Cell, cell, gap, dist}
use Rattle.geometry.specs.Plate.{On}
use Rattle.geometry.specs.Plunges.{centre, Covers, covers, Inside, inside, OnPlate, fits_plate}
use Rattle.theory.proofs.Distance.{gap-self}
use Rattle.theory.proofs.Balls.{col-near, row_near, within-sum, sum-within}

pub covers-iff : (kd : Kind) (q : Plunge) (c : Cell) → (covers kd q c ≡ true) ↔ Covers kd q c
covers-iff kd q c = (leb-true _ _, le-leb _ _)

-- both of two tests
both : (a b : Bool) → cond a b false ≡ true → (a ≡ true) × (b ≡ true)
both true b e = (refl, e)
both false b e = let z : ◌≡◌ {A = ℕ} 0 1 = cc in absurd (omega arith)

and : (a b : Bool) → a ≡ true → b ≡ true → cond a b false ≡ true
and a b e g = rw e g

-- "its ball's cells are all in the other's ball and its depth is no greater"
pub inside-iff : (kd : Kind) (q o : Plunge) → (inside kd q o ≡ true) ↔ Inside kd q o
inside-iff kd q o = (to, from)
  where
    to : inside kd q o ≡ true → Inside kd q o
    to e =
        let t = both (leb (dist kd (centre q) (centre o) + q.reach.0) o.reach.0) (leb q.depth o.depth) e in
        record { ball = sum-within kd (centre q) q.reach.0 (centre o) o.reach.0 (leb-true _ _ t.0); depth = leb-true _ _ t.1 }

    from : Inside kd q o → inside kd q o ≡ true
    from i = and _ _ (le-leb _ _ (within-sum kd (centre q) q.reach.0 (centre o) o.reach.0 i.ball)) (le-leb _ _ i.depth)

-- "By this rule a plunge also lies inside itself."
pub inside-self : (kd : Kind) (q : Plunge) → Inside kd q q
inside-self kd q = record { ball = λ o h. h; depth = omega arith }

-- the room that a ball wants on each side
record Room (p : Head) (q : Plunge) : Type 0 where
  west : q.reach.0 ≤ q.column
  north : q.reach.0 ≤ q.row
  east : q.column + q.reach.0 < p.width
  south : q.row + q.reach.0 < p.height

module _ (p : Head) (q : Plunge) where
  room-test : Room p q → fits_plate p q ≡ true
  room-test h = and _ _ (le-leb _ _ h.west) (and _ _ (le-leb _ _ h.north) (and _ _ (lt-ltb _ _ h.east) (lt-ltb _ _ h.south)))

  test-room : fits_plate p q ≡ true → Room p q
  test-room e =
      let a = both (leb q.reach.0 q.column) _ e in
      let b = both (leb q.reach.0 q.row) _ a.1 in
      let c = both (ltb (q.column + q.reach.0) p.width) _ b.1 in
      record { west = leb-true _ _ a.0; north = leb-true _ _ b.0; east = ltb-true _ _ c.0; south = ltb-true _ _ c.1 }

  room-on : Room p q → OnPlate p q
  room-on h o d = go o.col o.row refl refl (omega (arith, col-near p.kind (centre q) o)) (omega (arith, row_near p.kind (centre q) o))
    where
      go : (a b : ℤ) → o.col ≡ a → o.row ≡ b → gap (pos q.column) o.col ≤ q.reach.0 → gap (pos q.row) o.row ≤ q.reach.0 → On p o
      go (pos a) (pos b) e g k l =
          let k' : gap (pos q.column) (pos a) ≤ q.reach.0 = rw e at k in
          let l' : gap (pos q.row) (pos b) ≤ q.reach.0 = rw g at l in
          record { column = a; row = b; is = λ i. record { col = e i; row = g i }; left = omega (arith, h.east); upper = omega (arith, h.south) }
      go (pos a) (negsuc b) e g k l = let l' : gap (pos q.row) (negsuc b) ≤ q.reach.0 = rw g at l in absurd (omega (arith, h.north))
      go (negsuc a) b e g k l = let k' : gap (pos q.column) (negsuc a) ≤ q.reach.0 = rw e at k in absurd (omega (arith, h.west))

  -- a cell on the plate has no negative number
  on-col : (z w : ℤ) → On p (record { col = z; row = w }) → (a : ℕ) × (z ≡ pos a) × (a < p.width)
  on-col z w o = (o.column, ap (λ c. c.col) o.is, o.left)

  on_row : (z w : ℤ) → On p (record { col = z; row = w }) → (a : ℕ) × (w ≡ pos a) × (a < p.height)
  on_row z w o = (o.row, ap (λ c. c.row) o.is, o.upper)

  not-pos : (a b : ℕ) → negsuc a ≡ pos b → ⊥
  not-pos a b e = let z : ◌≡◌ {A = ℕ} 0 1 = cc in omega arith

  pos-same : (a b : ℕ) → pos a ≡ pos b → a ≡ b
  pos-same a b e = cc

  on_room : OnPlate p q → Room p q
  on_room h = record { west = w (dec_le r x); north = n (dec_le r y); east = e; south = s }
    where
      x : ℕ
      x = q.column

      y : ℕ
      y = q.row

      r : ℕ
      r = q.reach.0

      across : (kd : Kind) (z : ℤ) → gap (pos x) z ≤ r → dist kd (cell x y) (record { col = z; row = pos y }) ≤ r
      across Diamond z g = omega (arith, gap-self (pos y))
      across Square z g = omega (arith, gap-self (pos y))

      down : (kd : Kind) (z : ℤ) → gap (pos y) z ≤ r → dist kd (cell x y) (record { col = pos x; row = z }) ≤ r
      down Diamond z g = omega (arith, gap-self (pos x))
      down Square z g = omega (arith, gap-self (pos x))

      w : Dec (r ≤ x) → r ≤ x
      w (yes g) = g
      w (no g) = let t = on-col (negsuc (r - x - 1)) (pos y) (h _ (across p.kind (negsuc (r - x - 1)) (omega arith))) in absurd (not-pos _ _ t.1)

      n : Dec (r ≤ y) → r ≤ y
      n (yes g) = g
      n (no g) = let t = on_row (pos x) (negsuc (r - y - 1)) (h _ (down p.kind (negsuc (r - y - 1)) (omega arith))) in absurd (not-pos _ _ t.1)

      e : x + r < p.width
      e = let t = on-col (pos (x + r)) (pos y) (h _ (across p.kind (pos (x + r)) (omega arith))) in omega (arith, pos-same _ _ t.1, t.2)

      s : y + r < p.height
      s = let t = on_row (pos x) (pos (y + r)) (h _ (down p.kind (pos (y + r)) (omega arith))) in omega (arith, pos-same _ _ t.1, t.2)

  -- "its ball is wholly on the plate"
  pub fits_plate-iff : (fits_plate p q ≡ true) ↔ OnPlate p q
  fits_plate-iff = ((λ e. room-on (test-room e)), λ h. room-test (on_room h))
