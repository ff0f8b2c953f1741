-- Laws of boxes: rows copied, cropped and spread out one after the other.
use mathlib.Core.Path.{◌≡◌, sym, ap, ◌∙◌, subst}
use mathlib.Core.List.{List}
use Prim.Native.Nat.{ℕ, suc, ◌+◌, ◌*◌, ◌-◌, ◌≤◌, ◌<◌}
use native.Mathlib.Omega.{arith}
use native.Mathlib.Decide.{dec_le}
use native.Mathlib.Nat.{suc-mul, mul-le-mul_right, mul-le-mul}
use native.Mathlib.Numerals.{add-one}
use lib.Arith.{digits_lt}
use lib.ListN.{length, get_or}
use Rattle.std.specs.List.{CopiedTo, SameBelow, SameFrom}
use Rattle.geometry.specs.declared.Head.{Head}
use Rattle.geometry.specs.Plate.{area}
use Rattle.refusal.specs.Sides.{Sides}
use Rattle.buffers.specs.Fill.{Filled}
use Rattle.buffers.proofs.Fill.{filled-as, row_under, row-over}
use Rattle.bounding_box.specs.declared.Bounds.{Bounds}
use Rattle.bounding_box.specs.Boxes.{Within, CopiedRows, CroppedRows, Croppable, SpreadRows, Spread}

-- ---- rows moved

-- what `copy_within` leaves is a stretch filled from the same map
pub filled-moved : (from count to : ℕ) (old new : List ℕ) → length new ≡ length old
    → CopiedTo old new from to (from + count - from) × SameBelow old new to × SameFrom old new (to + (from + count - from))
    → Filled (λ n. get_or old (from + (n - to)) 0) to (to + count) old new
filled-moved from count to old new same h =
    record {
      same = same;
      inside = λ n a b. h.0 n 0 a (omega arith);
      under = λ n a. h.1 n 0 a;
      over = λ n a. h.2 n 0 (omega arith);
    }

-- ---- rows copied

module _ (w : ℕ) (b : Bounds) (src old : List ℕ) where
  -- one row more
  pub copied_more : (y : ℕ) (mid new : List ℕ) → CopiedRows w b y src old mid
      → Filled (λ n. get_or src ((y + b.row) * w + b.column + (n - y * b.width)) 0) (y * b.width) (y * b.width + b.width) mid new
      → CopiedRows w b (y + 1) src old new
  copied_more y mid new c g =
      record {
        same = g.same ∙ c.same;
        holds = λ x i a h. go x i a h (dec_le y i);
        surplus = λ n h. g.over n (omega (arith, more)) ∙ c.surplus n (omega (arith, more));
      }
    where
      more : (y + 1) * b.width ≡ y * b.width + b.width
      more = ap (λ (n : ℕ). n * b.width) (add-one y) ∙ suc-mul y b.width

      go : (x i : ℕ) → x < b.width → i < y + 1 → Dec (y ≤ i) → get_or new (i * b.width + x) 0 ≡ get_or src ((i + b.row) * w + (x + b.column)) 0
      go x i a h (yes d) =
          let k : i ≡ y = omega arith in
          let j : (y + b.row) * w + b.column + (y * b.width + x - y * b.width) ≡ (y + b.row) * w + (x + b.column) = omega arith in
          rw k (g.inside (y * b.width + x) (omega arith) (omega arith) ∙ ap (λ (n : ℕ). get_or src n 0) j)
      go x i a h (no d) =
          g.under (i * b.width + x) (row_under b.width y x i a (omega arith)) ∙ c.holds x i a (omega arith)

-- ---- rows cropped

-- a box of a plate can be cropped to
pub within-croppable : (p : Head) (b : Bounds) (m : List ℕ) → Sides p → Within p b → area p ≤ length m → Croppable p.width b m
within-croppable p b m s h l =
    record {
      wide = h.wide;
      narrow = omega (arith, s.narrow, h.across);
      across = h.across;
      down = omega (arith, mul-le-mul_right p.width h.down);
    }

module _ (w : ℕ) (b : Bounds) (old : List ℕ) where
  -- a row of the box gets no later place than it had
  pub no-later : Croppable w b old → (y : ℕ) → y * b.width ≤ (y + b.row) * w + b.column
  no-later h y =
      let first : y ≤ y + b.row = omega arith in
      let narrow : b.width ≤ w = omega (arith, h.across) in
      omega (arith, mul-le-mul first narrow)

  -- one row more, which has not been written over yet
  pub cropped-more : (y : ℕ) (mid new : List ℕ) → Croppable w b old → CroppedRows w b y old mid
      → Filled (λ n. get_or mid ((y + b.row) * w + b.column + (n - y * b.width)) 0) (y * b.width) (y * b.width + b.width) mid new
      → CroppedRows w b (y + 1) old new
  cropped-more y mid new r c f =
      copied_more w b old old y mid new c
      (filled-as _ _ (y * b.width) (y * b.width + b.width) mid new f
      (λ n a h. c.surplus ((y + b.row) * w + b.column + (n - y * b.width)) (omega (arith, no-later r y))))

-- ---- a box spread out

-- where row y of a box is read from, and where it comes to stand among rows of w bytes, n in all
pub record Stretch (w n : ℕ) (b : Bounds) (y : ℕ) : Type 0 where
  pub across : b.column + b.width ≤ w
  pub next : (y + 1 + b.row) * w ≡ (y + b.row) * w + w
  pub source : y * b.width + b.width ≤ (y + b.row) * w + w
  pub above : (y + b.row) * w + w ≤ (b.height + b.row) * w
  pub within : (y + b.row) * w + w ≤ n

-- that of the row before one
pub stretch : (p : Head) (b : Bounds) → Within p b → (k : ℕ) → 0 < k → k ≤ b.height → Stretch p.width (area p) b (k - 1)
stretch p b h k a l = of (k - 1) (omega arith)
  where
    of : (y : ℕ) → y < b.height → Stretch p.width (area p) b y
    of y l =
        let across = h.across in
        let down = h.down in
        let e : y + 1 + b.row ≡ suc (y + b.row) = omega arith in
        let j : suc (y + b.row) ≤ p.height = omega arith in
        let k : suc y ≤ suc (y + b.row) = omega arith in
        let c : b.width ≤ p.width = omega arith in
        let u : suc (y + b.row) ≤ b.height + b.row = omega arith in
        record {
          across = across;
          next = ap (λ (n : ℕ). n * p.width) e ∙ suc-mul (y + b.row) p.width;
          source = omega (arith, suc-mul y b.width, suc-mul (y + b.row) p.width, mul-le-mul k c);
          above = omega (arith, suc-mul (y + b.row) p.width, mul-le-mul_right p.width u);
          within = omega (arith, suc-mul (y + b.row) p.width, mul-le-mul_right p.width j);
        }

-- the rows above a box, and those down to its last
pub spread-rooms : (p : Head) (b : Bounds) → Within p b → (b.row * p.width ≤ (b.height + b.row) * p.width) × ((b.height + b.row) * p.width ≤ area p)
spread-rooms p b h =
    let down = h.down in
    let i : b.row ≤ b.height + b.row = omega arith in
    let j : b.height + b.row ≤ p.height = omega arith in
    (mul-le-mul_right p.width i, mul-le-mul_right p.width j)

module _ (w : ℕ) (b : Bounds) (old : List ℕ) where
  -- one row more: moved to its place, then zeros on either side of it
  pub spread-more : (n y k : ℕ) (mid moved half new : List ℕ) → k ≡ y + 1 → Stretch w n b y → SpreadRows w b k old mid
      → Filled (λ n. get_or mid (y * b.width + (n - ((y + b.row) * w + b.column))) 0) ((y + b.row) * w + b.column) ((y + b.row) * w + b.column + b.width) mid moved
      → Filled (λ n. 0) ((y + b.row) * w) ((y + b.row) * w + b.column) moved half
      → Filled (λ n. 0) ((y + b.row) * w + b.column + b.width) ((y + b.row) * w + w) half new
      → SpreadRows w b y old new
  spread-more n y k mid moved half new is-next t done f g h =
      record {
        same = h.same ∙ g.same ∙ f.same ∙ c.same;
        holds = λ x i a d e. row x i a d e (dec_le (y + 1) i);
        west = λ x i a d e. left x i a d e (dec_le (y + 1) i);
        east = λ x i a k d e. right x i a k d e (dec_le (y + 1) i);
        under = λ m a. h.under m (omega arith) ∙ g.under m a ∙ f.under m (omega arith) ∙ c.under m (omega (arith, t.next));
        over = λ m a. behind m (omega (arith, t.above)) ∙ c.over m a;
      }
    where
      c : SpreadRows w b (y + 1) old mid
      c = subst (λ (k : ℕ). SpreadRows w b k old mid) is-next done

      start : ℕ
      start = (y + b.row) * w

      -- what stands behind the row stays
      behind : (m : ℕ) → start + w ≤ m → get_or new m 0 ≡ get_or mid m 0
      behind m a = h.over m a ∙ g.over m (omega (arith, t.across)) ∙ f.over m (omega (arith, t.across))

      -- so do the rows below it
      below : (x i : ℕ) → y + 1 ≤ i → get_or new ((i + b.row) * w + x) 0 ≡ get_or mid ((i + b.row) * w + x) 0
      below x i k = behind ((i + b.row) * w + x) (omega (arith, t.next, row-over w (y + 1 + b.row) x (i + b.row) (omega arith)))

      row : (x i : ℕ) → x < b.width → y ≤ i → i < b.height → Dec (y + 1 ≤ i)
          → get_or new ((i + b.row) * w + (x + b.column)) 0 ≡ get_or old (i * b.width + x) 0
      row x i a d e (yes k) = below (x + b.column) i k ∙ c.holds x i a k e
      row x i a d e (no k) =
          let is : i ≡ y = omega arith in
          let place : start + (x + b.column) ≡ start + b.column + x = omega arith in
          let back : y * b.width + (start + b.column + x - (start + b.column)) ≡ y * b.width + x = omega arith in
          rw is
          (ap (λ (n : ℕ). get_or new n 0) place ∙ h.under (start + b.column + x) (omega arith) ∙ g.over (start + b.column + x) (omega arith)
          ∙ f.inside (start + b.column + x) (omega arith) (omega arith) ∙ ap (λ (n : ℕ). get_or mid n 0) back
          ∙ c.under (y * b.width + x) (omega (arith, t.source, t.next)))

      left : (x i : ℕ) → x < b.column → y ≤ i → i < b.height → Dec (y + 1 ≤ i) → get_or new ((i + b.row) * w + x) 0 ≡ 0
      left x i a d e (yes k) = below x i k ∙ c.west x i a k e
      left x i a d e (no k) =
          let is : i ≡ y = omega arith in rw is (h.under (start + x) (omega arith) ∙ g.inside (start + x) (omega arith) (omega arith))

      right : (x i : ℕ) → b.column + b.width ≤ x → x < w → y ≤ i → i < b.height → Dec (y + 1 ≤ i) → get_or new ((i + b.row) * w + x) 0 ≡ 0
      right x i a l d e (yes k) = below x i k ∙ c.east x i a l k e
      right x i a l d e (no k) =
          let is : i ≡ y = omega arith in rw is (h.inside (start + x) (omega arith) (omega arith))

module _ (p : Head) (b : Bounds) (h : Within p b) (old : List ℕ) where
  abbrev w : ℕ
  w = p.width

  -- all rows of the box, then zeros above it and below it
  pub spread-all : (y : ℕ) (rows half new : List ℕ) → y ≤ 0 → SpreadRows w b y old rows → Filled (λ n. 0) 0 (b.row * w) rows half
      → Filled (λ n. 0) ((b.height + b.row) * w) (area p) half new → Spread p b old new
  spread-all y rows half new e c above below =
      record {
        same = below.same ∙ above.same ∙ c.same;
        holds = λ x i a d. stays (x + b.column) i d (omega (arith, h.across)) ∙ c.holds x i a (omega arith) d;
        bare = record {
          west = λ x i a d l. all x i a d (λ j k t. ap (λ (n : ℕ). get_or rows (n * w + x) 0) k ∙ c.west x j l (omega arith) t);
          east = λ x i a d l. all x i a d (λ j k t. ap (λ (n : ℕ). get_or rows (n * w + x) 0) k ∙ c.east x j l a (omega arith) t);
          north = λ x i a d l. all x i a d (λ j k t. absurd (omega arith));
          south = λ x i a d l. all x i a d (λ j k t. absurd (omega arith));
        };
        surplus = λ n l. below.over n l ∙ above.over n (omega (arith, spread-rooms p b h)) ∙ c.over n (omega (arith, spread-rooms p b h));
      }
    where
      stays : (x i : ℕ) → i < b.height → x < w → get_or new ((i + b.row) * w + x) 0 ≡ get_or rows ((i + b.row) * w + x) 0
      stays x i d l =
          below.under ((i + b.row) * w + x) (row_under w (b.height + b.row) x (i + b.row) l (omega arith))
          ∙ above.over ((i + b.row) * w + x) (row-over w b.row x (i + b.row) (omega arith))

      -- a cell is 0 that is 0 where its row is one of the box
      all : (x i : ℕ) → x < w → i < p.height → ((j : ℕ) → i ≡ j + b.row → j < b.height → get_or rows (i * w + x) 0 ≡ 0) → get_or new (i * w + x) 0 ≡ 0
      all x i a d z = go (dec_le b.row i) (dec_le (b.height + b.row) i)
        where
          go : Dec (b.row ≤ i) → Dec (b.height + b.row ≤ i) → get_or new (i * w + x) 0 ≡ 0
          go k (yes l) = below.inside (i * w + x) (row-over w (b.height + b.row) x i l) (digits_lt d a)
          go (no k) (no l) =
              below.under (i * w + x) (row_under w (b.height + b.row) x i a (omega arith))
              ∙ above.inside (i * w + x) (omega arith) (row_under w b.row x i a (omega arith))
          go (yes k) (no l) =
              let is : i ≡ i - b.row + b.row = omega arith in
              ap (λ (n : ℕ). get_or new (n * w + x) 0) is ∙ stays x (i - b.row) (omega arith) a ∙ ap (λ (n : ℕ). get_or rows (n * w + x) 0) (sym is)
              ∙ z (i - b.row) is (omega arith)
