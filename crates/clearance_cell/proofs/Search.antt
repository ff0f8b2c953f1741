-- The search for the nearest wall, a cell that is not in the shape: what one row tells of its cells,
-- what the rows searched so far tell of all cells, and that the distance found at the end is the clearance.
use mathlib.Core.Path.{◌≡◌, refl, sym, ap, ◌∙◌, subst}
use mathlib.Core.Logic.{⊎_elim}
use mathlib.Core.List.{List}
use Prim.Native.Nat.{ℕ, ◌+◌, ◌*◌, ◌-◌, ◌≤◌, ◌<◌, min}
use native.Mathlib.Omega.{arith}
use native.Mathlib.Decide.{dec_le}
use native.Mathlib.Nat.{suc-mul, mul-le-mul_right}
use borrow.Author.Tests.{lt-ltb, le-ltb}
use lib.IntN.{ℤ, pos, negsuc}
use lib.ListN.{get_or}
use Rattle.geometry.specs.declared.Kind.{Kind}
use Rattle.geometry.specs.declared.Kind.TheVariants.{Diamond, Square}
use Rattle.geometry.specs.declared.Head.{Head}
use Rattle.geometry.specs.Plane.{Cell, cell, gap, dist}
use Rattle.geometry.specs.Plate.{area, at}
use Rattle.theory.specs.Levels.{clearance}
use Rattle.theory.proofs.Distance.{gap-self}
use Rattle.theory.proofs.Balls.{col-near, row_near}
use Rattle.theory.proofs.Plate.{at-cell}
use Rattle.theory.proofs.Levels.{clearance-unique}
use Rattle.clearance_cell.specs.Search.{edge_distance, Free, Wall, apart, InRow}

-- ---- columns and rows apart

module _ (kd : Kind) (c o : Cell) (i j : ℕ) where
  dist-apart : gap c.col o.col ≡ i → gap c.row o.row ≡ j → dist kd c o ≡ apart kd i j
  dist-apart e g = go kd
    where
      go : (kd : Kind) → dist kd c o ≡ apart kd i j
      go Diamond = omega arith
      go Square = omega arith

columns-apart : (kd : Kind) (i j : ℕ) → i ≤ apart kd i j
columns-apart Diamond i j = omega arith
columns-apart Square i j = omega arith

rows_apart : (kd : Kind) (i j : ℕ) → j ≤ apart kd i j
rows_apart Diamond i j = omega arith
rows_apart Square i j = omega arith

same_row : (kd : Kind) (i : ℕ) → apart kd i 0 ≡ i
same_row Diamond i = omega arith
same_row Square i = omega arith

same-column : (kd : Kind) (j : ℕ) → apart kd 0 j ≡ j
same-column Diamond j = omega arith
same-column Square j = omega arith

-- ---- one row

-- a row that is no nearer than the wall found holds no nearer one
pub far-row : (kd : Kind) (m : List ℕ) (t place j best : ℕ) → best ≤ j → InRow kd m t place j best best
far-row kd m t place j best h =
    record { most = omega arith; free = λ i l. absurd (omega (arith, rows_apart kd i j)); wall = λ l. absurd (omega arith) }

-- ---- the rows searched

-- all cells nearer than r lie on the plate
pub record Room (p : Head) (x y r : ℕ) : Type 0 where
  pub left : r ≤ x + 1
  pub right : x + r ≤ p.width
  pub above : r ≤ y + 1
  pub below : y + r ≤ p.height

nearer : (p : Head) (x y n r : ℕ) → Room p x y n → r ≤ n → Room p x y r
nearer p x y n r h l = record {
  left = omega (arith, h.left);
  right = omega (arith, h.right);
  above = omega (arith, h.above);
  below =
      omega (arith, h.below);
}

module _ (p : Head) (m : List ℕ) (t x y : ℕ) where
  -- a wall stands at this distance
  abbrev pub Met : ℕ → Type 0
  Met r = (o : Cell) × (at p m o < t) × (dist p.kind (cell x y) o ≡ r)

  -- no wall in the rows less than away from the cell's is nearer than best, and one, on the plate or off it, is as near
  pub record Searched (away best : ℕ) : Type 0 where
    pub room : Room p x y best
    pub free : (a b : ℕ) → gap (pos y) (pos b) < away → dist p.kind (cell x y) (cell a b) < best → t ≤ at p m (cell a b)
    pub met : Met best

  meets : (o : Cell) (i j r : ℕ) → at p m o < t → gap (pos x) o.col ≡ i → gap (pos y) o.row ≡ j → apart p.kind i j ≡ r → Met r
  meets o i j r h e g k = (o, h, dist-apart p.kind (cell x y) o i j e g ∙ k)

  meets-min : (a b : ℕ) → Met a → Met b → Met (min a b)
  meets-min a b h l = go (dec_le a b)
    where
      go : Dec (a ≤ b) → Met (min a b)
      go (yes d) = (h.0, h.1, omega (arith, h.2))
      go (no d) = (l.0, l.1, omega (arith, l.2))

  -- before the first row: the nearest cell off the plate is one of four
  pub searched-none : 1 ≤ t → x < p.width → y < p.height → Searched 0 (edge_distance p.width p.height x y)
  searched-none level left upper =
      record {
        room = record { left = omega arith; right = omega arith; above = omega arith; below = omega arith };
        free = λ a b h l. absurd (omega arith);
        met = meets-min (min (x + 1) (p.width - x)) (min (y + 1) (p.height - y)) (meets-min (x + 1) (p.width - x) west east)
            (meets-min (y + 1) (p.height - y) north south);
      }
    where
      west : Met (x + 1)
      west = meets (record { col = negsuc 0; row = pos y }) (x + 1) 0 (x + 1) level (omega arith) (gap-self (pos y)) (same_row p.kind (x + 1))

      east : Met (p.width - x)
      east =
          let l : p.width ≤ p.width = omega arith in
          meets (cell p.width y) (p.width - x) 0 (p.width - x) (rw (le-ltb _ _ l) level) (omega arith) (gap-self (pos y))
          (same_row p.kind (p.width - x))

      north : Met (y + 1)
      north = meets (record { col = pos x; row = negsuc 0 }) 0 (y + 1) (y + 1) level (gap-self (pos x)) (omega arith) (same-column p.kind (y + 1))

      south : Met (p.height - y)
      south =
          let l : p.height ≤ p.height = omega arith in
          meets (cell x p.height) 0 (p.height - y) (p.height - y) (rw (lt-ltb _ _ left, le-ltb _ _ l) level) (gap-self (pos x)) (omega arith)
          (same-column p.kind (p.height - y))

  -- one row: its cells nearer than r are no walls, and a wall stands at r if one stood at best
  module _ (b j best r : ℕ) (room : Room p x y best) (is : gap (pos y) (pos b) ≡ j) (row : InRow p.kind m t (b * p.width + x) j best r) where
    row-free : (a : ℕ) → dist p.kind (cell x y) (cell a b) < r → t ≤ at p m (cell a b)
    row-free a h = go (dec_le a x)
      where
        i : ℕ
        i = gap (pos x) (pos a)

        free : Free m t (b * p.width + x) i
        free = row.free i (omega (arith, dist-apart p.kind (cell x y) (cell a b) i j refl is))

        on : at p m (cell a b) ≡ get_or m (b * p.width + a) 0
        on =
            at-cell p m a b (omega (arith, row.most, col-near p.kind (cell x y) (cell a b)))
            (omega (arith, row.most, row_near p.kind (cell x y) (cell a b)))

        go : Dec (a ≤ x) → t ≤ at p m (cell a b)
        go (yes d) =
            let k : b * p.width + x - i ≡ b * p.width + a = omega arith in
            omega (arith, on, free.0, ap (λ (n : ℕ). get_or m n 0) k)
        go (no d) =
            let k : b * p.width + x + i ≡ b * p.width + a = omega arith in
            omega (arith, on, free.1, ap (λ (n : ℕ). get_or m n 0) k)

    row-met : Met best → Met r
    row-met h = go (dec_le best r)
      where
        found : (i : ℕ) → apart p.kind i j ≡ r → r < best → Wall m t (b * p.width + x) i → Met r
        found i e n = ⊎_elim west east
          where
            l : i ≤ r
            l = omega (arith, columns-apart p.kind i j)

            upper : b < p.height
            upper = omega (arith, rows_apart p.kind i j)

            west : get_or m (b * p.width + x - i) 0 < t → Met r
            west g =
                let k : b * p.width + x - i ≡ b * p.width + (x - i) = omega (arith, l) in
                meets (cell (x - i) b) i j r (omega (arith, at-cell p m (x - i) b (omega arith) upper, ap (λ (n : ℕ). get_or m n 0) k)) (omega (arith, l)) is e

            east : get_or m (b * p.width + x + i) 0 < t → Met r
            east g =
                let k : b * p.width + x + i ≡ b * p.width + (x + i) = omega arith in
                meets (cell (x + i) b) i j r (omega (arith, at-cell p m (x + i) b (omega (arith, l)) upper, ap (λ (n : ℕ). get_or m n 0) k)) (omega arith) is e

        go : Dec (best ≤ r) → Met r
        go (yes d) = (h.0, h.1, omega (arith, h.2, row.most))
        go (no d) = let w = row.wall (omega arith) in found w.0 w.1 (omega arith) w.2

  -- the rows that are away above and below, and so one row more on either side
  pub searched-more : (away best up down : ℕ) → Searched away best → away < best → InRow p.kind m t ((y - away) * p.width + x) away best up
      → InRow p.kind m t ((y + away) * p.width + x) away up down → Searched (away + 1) down
  searched-more away best up down s near above below =
      record {
        room = nearer p x y best down s.room (omega (arith, above.most, below.most));
        free = λ a b h l. go a b h l (dec_le away (gap (pos y) (pos b))) (dec_le b y);
        met = row-met (y + away) away up down (nearer p x y best up s.room above.most) (omega arith) below
            (row-met (y - away) away best up s.room (omega (arith, s.room.above)) above s.met);
      }
    where
      in_row : (b c from to : ℕ) → b ≡ c → InRow p.kind m t (c * p.width + x) away from to → InRow p.kind m t (b * p.width + x) away from to
      in_row b c from to e = subst (λ (n : ℕ). InRow p.kind m t (n * p.width + x) away from to) (sym e)

      go : (a b : ℕ) → gap (pos y) (pos b) < away + 1 → dist p.kind (cell x y) (cell a b) < down → Dec (away ≤ gap (pos y) (pos b)) → Dec (b ≤ y)
          → t ≤ at p m (cell a b)
      go a b h l (no d) u = s.free a b (omega arith) (omega (arith, above.most, below.most))
      go a b h l (yes d) (yes u) = row-free b away best up s.room (omega arith) (in_row b (y - away) best up (omega arith) above) a
          (omega (arith, below.most))
      go a b h l (yes d) (no u) = row-free b away up down (nearer p x y best up s.room above.most) (omega arith)
          (in_row b (y + away) up down (omega arith) below) a l

  -- no row left can hold a nearer wall
  pub searched-end : (away best : ℕ) → Searched away best → best ≤ away → 1 ≤ t → best ≡ clearance p m t (cell x y)
  searched-end away best s far level =
      clearance-unique p m t level (cell x y) best (record { bound = λ d h. bound d h (dec_le best (dist p.kind (cell x y) d)); met = s.met })
    where
      free : (d : Cell) → dist p.kind (cell x y) d < best → t ≤ at p m d
      free d h = go d.col d.row refl refl
        where
          go : (a b : ℤ) → d.col ≡ a → d.row ≡ b → t ≤ at p m d
          go (pos a) (pos b) e g =
              let k : d ≡ cell a b = λ i. record { col = e i; row = g i } in
              subst (λ o. t ≤ at p m o) (sym k)
              (s.free a b (omega (arith, row_near p.kind (cell x y) d, ap (gap (pos y)) g)) (omega (arith, ap (dist p.kind (cell x y)) k)))
          go (negsuc a) b e g = absurd (omega (arith, s.room.left, col-near p.kind (cell x y) d, ap (gap (pos x)) e))
          go (pos a) (negsuc b) e g = absurd (omega (arith, s.room.above, row_near p.kind (cell x y) d, ap (gap (pos y)) g))

      bound : (d : Cell) → at p m d < t → Dec (best ≤ dist p.kind (cell x y) d) → best ≤ dist p.kind (cell x y) d
      bound d h (yes l) = l
      bound d h (no l) = absurd (omega (arith, free d (omega arith)))

-- ---- what the loop asks

-- the places nearer than r to either side, in row b, are places of that row
pub row-places : {p : Head} {x y r : ℕ} → Room p x y r → (b : ℕ) → b < p.height → (r ≤ b * p.width + x + 1) × (b * p.width + x + r ≤ area p)
row-places {p} h b l = (omega (arith, h.left), omega (arith, h.right, mul-le-mul_right p.width l, suc-mul b p.width))
