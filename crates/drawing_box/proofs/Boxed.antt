-- Laws of boxes that hold balls: an extent with one ball more, the smallest box and the whole plate, and plunges that fit the box as a plate.
use mathlib.Core.Path.{◌≡◌, sym, ap, ◌∙◌, subst}
use mathlib.Core.Bool.{true}
use mathlib.Core.List.{List}
use Prim.Native.Nat.{ℕ, ◌+◌, ◌-◌, ◌≤◌, ◌<◌}
use native.Mathlib.Omega.{arith}
use native.Mathlib.Decide.{dec_le}
use borrow.Author.Tests.{le-leb, lt-ltb}
use Rattle.geometry.specs.declared.Head.{Head}
use Rattle.geometry.specs.declared.Plunge.{Plunge}
use Rattle.geometry.specs.Plunges.{fits_plate}
use Rattle.refusal.specs.Sides.{Sides}
use Rattle.bounding_box.specs.declared.Bounds.{Bounds}
use Rattle.bounding_box.specs.Boxes.{Within}
use Rattle.reading.specs.Reading.{nth_plunge}
use Rattle.drawing_box.specs.declared.Drawing.{Drawing}
use Rattle.drawing_box.specs.declared.Extent.{Extent}
use Rattle.drawing_box.specs.Boxed.{Drawable, Reached, widened_by, Extended, Held, Holding, Placeable, part_of, boxed, plunge_in}
use Rattle.drawing_box.proofs.Rooms.{Room, nth-room}

-- ---- extents

module _ (p : Head) (f : List ℕ) (n : ℕ) where
  -- the ball before one more
  pub extended-more : (i k : ℕ) (e r : Extent) (q : Plunge) → k ≡ i + 1 → Drawable p n f → k ≤ n → Extended p f k n e → q ≡ nth_plunge f i → r ≡ widened_by e q
      → Extended p f i n r
  extended-more i k e r q next d l x is to =
      subst (Extended p f i n) (sym (to ∙ ap (widened_by e) is))
      (record {
        across = omega (arith, x.across, has.east);
        down = omega (arith, x.down, has.south);
        balls = λ j g h. ball j g h (dec_le k j);
      })
    where
      has : Room p (nth_plunge f i)
      has = nth-room p n f d i (omega arith)

      ball : (j : ℕ) → i ≤ j → j < n → Dec (k ≤ j) → Reached (widened_by e (nth_plunge f i)) (nth_plunge f j)
      ball j g h (no u) =
          let v : i ≡ j = omega arith in
          subst (λ (j : ℕ). Reached (widened_by e (nth_plunge f i)) (nth_plunge f j)) v
          (record { west = omega (arith, has.west); east = omega arith; north = omega (arith, has.north); south = omega arith })
      ball j g h (yes u) =
          let s = x.balls j u h in
          record { west = omega (arith, s.west); east = omega (arith, s.east); north = omega (arith, s.north); south = omega (arith, s.south) }

  -- the whole plate
  pub extended-whole : Drawable p n f → Extended p f 0 n (record { left = 0; right = p.width; top = 0; bottom = p.height })
  extended-whole d =
      record {
        across = omega arith;
        down = omega arith;
        balls = λ i g l.
            let r = nth-room p n f d i l in
            record { west = omega (arith, r.west); east = r.east; north = omega (arith, r.north); south = r.south };
      }

-- ---- boxes

-- ---- a box as a plate of its own

pub part-sides : (d : Drawing) → Sides d.head → Within d.head d.part → Sides (part_of d)
part-sides d s w =
    record { wide = w.wide; narrow = omega (arith, w.across, s.narrow); tall = w.tall; low = omega (arith, w.down, s.low) }

pub boxed-fits : (d : Drawing) (q : Plunge) → Held d.part q → fits_plate (part_of d) (boxed d.part q) ≡ true
boxed-fits d q h =
    let west : q.reach.0 ≤ q.column - d.part.column = omega (arith, h.west) in
    let north : q.reach.0 ≤ q.row - d.part.row = omega (arith, h.north) in
    let east : q.column - d.part.column + q.reach.0 < d.part.width = omega (arith, h.west, h.east) in
    let south : q.row - d.part.row + q.reach.0 < d.part.height = omega (arith, h.north, h.south) in
    rw (le-leb _ _ west, le-leb _ _ north, lt-ltb _ _ east, lt-ltb _ _ south)

pub placeable-fits : (d : Drawing) (f : List ℕ) → Placeable d f → (i : ℕ) → i < d.count → fits_plate (part_of d) (plunge_in d f i) ≡ true
placeable-fits d f h i l = boxed-fits d (nth_plunge f i) (h.holding.balls i l)

-- a file that can be drawn, on a box that holds its balls
pub placeable : (p : Head) (n : ℕ) (f : List ℕ) (b : Bounds) → Sides p → Drawable p n f → Holding p b n f
    → Placeable (record { head = p; count = n; part = b }) f
placeable p n f b s d h = record { sides = s; file = d; holding = h }
