-- Laws of the pass with 16-bit numbers: rows in arrays, what holds after some rows, and the bytes at the end.
use mathlib.Core.Path.{◌≡◌, sym, ap, ◌∙◌, subst}
use mathlib.Core.List.{List, ◌++◌}
use Prim.Native.Nat.{ℕ, ◌+◌, ◌*◌, ◌-◌, ◌/◌, ◌%◌, ◌≤◌, ◌<◌}
use native.Mathlib.Omega.{arith}
use native.Mathlib.Decide.{dec_le}
use native.Mathlib.Nat.{suc-mul}
use borrow.Author.Tests.{lt-ltb, le-ltb}
use lib.ListN.{length, get_or, drop, set, get_or-append}
use Rattle.geometry.specs.declared.Head.{Head}
use Rattle.geometry.specs.Plane.{cell}
use Rattle.geometry.specs.Plate.{area, at}
use Rattle.window.specs.Windows.{window_of}
use Rattle.theory.proofs.Plate.{at-cell, length-tabulated}
use Rattle.buffers.specs.Fill.{Filled, Mapped}
use Rattle.buffers.specs.Margin.{Margin}
use Rattle.buffers.proofs.Fill.{mapped-bytes}
use Rattle.buffers.proofs.Rooms.{row_room}
use Rattle.row_arrays.specs.Rows.{margin, Margins, Row}
use Rattle.row_arrays.specs.Asked.{Held}
use Rattle.row_arrays.proofs.Rows.{zeros, row-zeros}
use Rattle.wide_rows.specs.Wide.{wide_map, wide_numbers, WideFilled}
use Rattle.wide_rows.proofs.Wide.{room-wide, wide-none, wide-more, wide-end, wide-filled, wide-as, wide-bytes}
use Rattle.row_filter.specs.declared.Leaf.TheVariants.{Axis}
use Rattle.row_filter.specs.Filter.{window_rows, kept, row_of, FilteredRow}
use Rattle.row_filter.proofs.InPlace.{FilteredTo, filtered-none, filtered-more, done_all}
use Rattle.wide_axis.specs.Kept.{kept_map, WideReadable, KeptRow}

-- ---- the bytes of the numbers stored

-- one number more
pub bytes-stored : (f : ℕ → ℕ) (from to v a b : ℕ) (old mid : List ℕ) → WideFilled f from to old mid → from ≤ to → 2 * (to + 1) ≤ length old → v ≡ f to
    → a ≡ v / 256 → b ≡ v % 256 → WideFilled f from (to + 1) old (set (set mid (2 * to) a) (2 * to + 1) b)
bytes-stored f from to v a b old mid h g room e c d =
    wide-more f from to a b old mid h g room (c ∙ ap (λ (n : ℕ). n / 256) e) (d ∙ ap (λ (n : ℕ). n % 256) e)

-- numbers that have their two bytes, and a stretch more of them
pub bytes-more : (f : ℕ → ℕ) (from to : ℕ) (old mid new : List ℕ) → from ≤ to → 2 * to ≤ length old
    → WideFilled (λ n. get_or (wide_numbers mid) n 0) 0 from old mid → WideFilled f from to mid new → WideFilled (λ n. get_or (wide_numbers new) n 0) 0 to old new
bytes-more f from to old mid new o room h l =
    record {
      same = l.same ∙ h.same;
      high = λ n a b. high-at n b (dec_le from n);
      low = λ n a b. low-at n b (dec_le from n);
      under = λ n a. absurd (omega arith);
      over = λ n a. l.over n a ∙ h.over n (omega arith);
    }
  where
    numbers : Filled f from to (wide_numbers mid) (wide_numbers new)
    numbers = wide-filled f from to mid new (omega (arith, h.same)) l

    high-at : (n : ℕ) → n < to → Dec (from ≤ n) → get_or new (2 * n) 0 ≡ get_or (wide_numbers new) n 0 / 256
    high-at n b (yes d) = l.high n d b ∙ ap (λ (v : ℕ). v / 256) (sym (numbers.inside n d b))
    high-at n b (no d) =
        l.under (2 * n) (omega arith) ∙ h.high n (omega arith) (omega arith) ∙ ap (λ (v : ℕ). v / 256) (sym (numbers.under n (omega arith)))

    low-at : (n : ℕ) → n < to → Dec (from ≤ n) → get_or new (2 * n + 1) 0 ≡ get_or (wide_numbers new) n 0 % 256
    low-at n b (yes d) = l.low n d b ∙ ap (λ (v : ℕ). v % 256) (sym (numbers.inside n d b))
    low-at n b (no d) =
        l.under (2 * n + 1) (omega arith) ∙ h.low n (omega arith) (omega arith) ∙ ap (λ (v : ℕ). v % 256) (sym (numbers.under n (omega arith)))

-- ---- rows

module _ (p : Head) where
  abbrev w : ℕ
  w = p.width

  -- a row's bytes lie in the map
  pub row-bytes : (y n : ℕ) → y < p.height → 2 * area p ≤ n → 2 * (y * w + w) ≤ n
  row-bytes y n h l = omega (arith, row_room w y p.height (area p) h (omega arith))

  pub row_read : (m row : List ℕ) (y : ℕ) → y < p.height → Row (λ x. get_or m (y * w + x) 0) w row → Row (λ x. at p m (cell x y)) w row
  row_read m row y h r = record { margins = r.margins; cells = λ x l. r.cells x l ∙ sym (at-cell p m x y l h) }

  -- below the plate a map is 0
  pub row-past : (m : List ℕ) (y : ℕ) → p.height ≤ y → Row (λ x. at p m (cell x y)) w zeros
  row-past m y h = record { margins = (row-zeros w).margins; cells = λ x l. (row-zeros w).cells x l ∙ rw (lt-ltb _ _ l, le-ltb _ _ h) }

  -- a row as the pass between edges reads it, the edge being 0
  row_plain : (m row : List ℕ) (y : ℕ) → Row (λ x. at p m (cell x y)) w row → Row (row_of p 0 m y) (w - 2 * 0) row
  row_plain m row y r =
      let k : w - 2 * 0 ≡ w = omega arith in
      subst (λ (i : ℕ). Row (row_of p 0 m y) i row) (sym k) (record { margins = r.margins; cells = λ x l. r.cells x l ∙ go x l })
    where
      go : (x : ℕ) → x < w → at p m (cell x y) ≡ row_of p 0 m y x
      go x l =
          let i : y + 0 ≡ y = omega arith in
          let j : y * w + 0 + x ≡ y * w + x = omega arith in
          rw (i, j, lt-ltb _ _ l)

  filtered-plain : (y : ℕ) (above mid below' out out' : List ℕ) → y < p.height → 2 * area p ≤ length out → KeptRow p y above mid below' out out'
      → FilteredRow p Axis 0 y above mid below' (wide_numbers out) (wide_numbers out')
  filtered-plain y above mid below' out out' h room r =
      let j : y * w ≡ y * w + 0 = omega arith in
      let k : w ≡ w - 2 * 0 = omega arith in
      record {
        map_is = subst (λ (v : ℕ). Filled (made (y * w + 0)) (y * w + 0) (y * w + 0 + v) (wide_numbers out) (wide_numbers out')) k
            (subst (λ (i : ℕ). Filled (made i) i (i + w) (wide_numbers out) (wide_numbers out')) j
            (wide-filled (made (y * w)) (y * w) (y * w + w) out out' (row-bytes y (length out) h room) r.out-is));
        below-is = row_plain (wide_numbers out) below' (y + 1) r.below-is;
      }
    where
      made : ℕ → ℕ → ℕ
      made from n = kept p.kind (window_rows above mid below' (margin + (n - from)))

  -- ---- row after row

  module _ (old : List ℕ) where
    -- after some rows: the pass over the numbers, and those before have their two bytes
    pub record KeptTo (y : ℕ) (above mid below out : List ℕ) : Type 0 where
      pub numbers : FilteredTo p 0 (wide_numbers old) Axis y above mid below (wide_numbers out)
      pub bytes : WideFilled (λ n. get_or (wide_numbers out) n 0) 0 (y * w) old out

    no_edge : 1 ≤ 0 → Margin p (0 + 1) (wide_numbers old)
    no_edge h = absurd (omega arith)

    module _ (held : Held p) (room : 2 * area p ≤ length old) where
      pub kept-start : (mid : List ℕ) → Row (λ x. at p (wide_numbers old) (cell x 0)) w mid → KeptTo 0 zeros mid zeros old
      kept-start mid r =
          record {
            numbers = filtered-none p 0 (wide_numbers old) no_edge Axis mid (omega (arith, held.wide)) (omega (arith, held.tall))
                (row_plain (wide_numbers old) mid 0 r);
            bytes = wide-end _ 0 0 (0 * w) old old (omega arith) (omega arith) (wide-none _ 0 old);
          }

      -- the row below can be read over the row above the last
      pub kept-readable : (y : ℕ) (above mid below out : List ℕ) → KeptTo y above mid below out → y < p.height → WideReadable p (y + 1) out below
      kept-readable y above mid below out a h =
          record {
            held = held;
            room = omega (arith, a.bytes.same);
            here = omega arith;
            margins = let k : w - 2 * 0 ≡ w = omega arith in subst (λ (i : ℕ). Margins i below) k a.numbers.below-margins;
          }

      -- a row more, and the arrays change roles
      pub kept_more : (y : ℕ) (above mid below out below' out' : List ℕ) → KeptTo y above mid below out → y < p.height
          → KeptRow p y above mid below' out out' → KeptTo (y + 1) mid below' above out'
      kept_more y above mid below out below' out' a h r =
          let k : y * w + w ≡ (y + 1) * w = omega (arith, suc-mul y w) in
          record {
            numbers = filtered-more p 0 (wide_numbers old) no_edge Axis y above mid below (wide_numbers out) below' (wide_numbers out')
                (omega (arith, held.wide)) a.numbers (omega arith)
                (filtered-plain y above mid below' out out' h (omega (arith, a.bytes.same)) r);
            bytes = subst (λ (n : ℕ). WideFilled (λ n. get_or (wide_numbers out') n 0) 0 n old out') k
                (bytes-more _ (y * w) (y * w + w) old out out' (omega arith) (row-bytes y (length old) h room) a.bytes r.out-is);
          }

      pub kept-all : (y : ℕ) (above mid below out : List ℕ) → KeptTo y above mid below out → p.height ≤ y
          → out ≡ wide_map (kept_map p (wide_numbers old)) ++ drop (length (wide_map (kept_map p (wide_numbers old)))) old
      kept-all y above mid below out a h =
          wide-bytes (kept_map p (wide_numbers old)) old out (omega (arith, sizes))
          (subst (λ (n : ℕ). WideFilled (λ n. get_or (kept_map p (wide_numbers old)) n 0) 0 n old out) (sym sizes)
          (wide-as (λ n. get_or (wide_numbers out) n 0) 0 (λ n. get_or (kept_map p (wide_numbers old)) n 0) (area p) old out filled (λ n c d. number n d)))
        where
          sizes : length (kept_map p (wide_numbers old)) ≡ area p
          sizes = length-tabulated p (λ c. kept p.kind (window_of p (wide_numbers old) c))

          mapped : Mapped p (λ c. kept p.kind (window_of p (wide_numbers old) c)) (wide_numbers old) (wide_numbers out)
          mapped = done_all p 0 (wide_numbers old) no_edge Axis y (wide_numbers out) (omega (arith, held.wide)) a.numbers.to (omega arith)

          filled : WideFilled (λ n. get_or (wide_numbers out) n 0) 0 (area p) old out
          filled =
              let k : y ≡ p.height = omega (arith, a.numbers.to.within) in
              subst (λ (j : ℕ). WideFilled (λ n. get_or (wide_numbers out) n 0) 0 (j * w) old out) k a.bytes

          number : (n : ℕ) → n < area p → get_or (wide_numbers out) n 0 ≡ get_or (kept_map p (wide_numbers old)) n 0
          number n d =
              ap (λ (l : List ℕ). get_or l n 0) (mapped-bytes p _ (wide_numbers old) (wide_numbers out) (room-wide old (area p) room) mapped)
              ∙ get_or-append (kept_map p (wide_numbers old)) (drop (length (kept_map p (wide_numbers old))) (wide_numbers old)) 0 n (omega (arith, sizes))
