-- Laws of sweeps: nothing yet, one place more, the same by other names; the windows of a map that is 0 along its border.
use mathlib.Core.Path.{◌≡◌, refl, sym, ap, ap₂, ◌∙◌, subst}
use mathlib.Core.Logic.{◌⊎◌, inl, inr}
use mathlib.Core.Bool.{Bool, true, false, cond}
use mathlib.Core.List.{List, [], ◌∷◌}
use Prim.Native.Nat.{ℕ, zero, suc, ◌+◌, ◌*◌, ◌-◌, ◌%◌, ◌/◌, ◌≤◌, ◌<◌, min, max}
use native.Mathlib.Omega.{arith}
use native.Mathlib.Decide.{dec_le}
use native.Mathlib.Nat.{zero-mul, suc-mul, mul-le-mul_right, mod-lt, div-add-mod', div-lt_iff_lt-mul}
use native.Mathlib.Numerals.{add-one}
use borrow.Author.Tests.{le-ltb}
use lib.Arith.{digits_div, digits_mod}
use lib.Dec.{ltb}
use lib.ListN.{length, get_or, set}
use lib.Seq.{get_or-set_same, get_or-set_other}
use Rattle.geometry.specs.declared.Kind.{Kind}
use Rattle.geometry.specs.declared.Kind.TheVariants.{Diamond, Square}
use Rattle.geometry.specs.declared.Head.{Head}
use Rattle.geometry.specs.Plane.{cell, west, east, north}
use Rattle.geometry.specs.Plate.{area, at}
use Rattle.theory.proofs.Plate.{at-cell}
use Rattle.window.specs.Windows.{window_of, window_min, window_max}
use Rattle.window.specs.Places.{window_in}
use Rattle.window.proofs.Windows.{three, window-min-near, window-max-near}
use Rattle.buffers.specs.Margin.{Margin}
use Rattle.buffers.specs.Fill.{Filled}
use Rattle.buffers.proofs.Fill.{filled_none, filled_more, filled-as}
use Rattle.residue_marks.specs.Marks.{mark_of}
use Rattle.residue_sweep.specs.Sweeps.{place_cell, low_in, high_in, low_near, high_near, beside_window, high_beside, marks_of, Sweep}

-- a place of a plate lies in one of its rows
pub place-row : (n w h : ℕ) → 1 ≤ w → n < h * w → n / w < h
place-row n w h a b = (div-lt_iff_lt-mul a).1 b

module _ (low high : ℕ → ℕ) (start : ℕ) (prev marks : List ℕ) where
  pub sweep-none : Sweep low high start 0 prev prev marks marks 0 0
  sweep-none =
      let k : start ≡ start + 0 = omega arith in
      record {
        next = subst (λ (n : ℕ). Filled low start n prev prev) k (filled_none low start prev);
        marked = filled_none _ 0 marks;
        deep = λ i a. absurd (omega arith);
        under = λ n a b. absurd (omega arith);
        bare = λ z. refl;
      }

  -- one place more
  pub sweep-more : (i v l u t deepest top : ℕ) (prev' marks' : List ℕ) → Sweep low high start i prev prev' marks marks' deepest top
      → start + i < length prev → i < length marks → v ≡ mark_of (get_or prev' (start + i) 0) (high (start + i)) → l ≡ low (start + i)
      → u ≡ max deepest v → t ≡ max top l
      → Sweep low high start (i + 1) prev (set prev' (start + i) l) marks (set marks' i v) u t
  sweep-more i v l u t deepest top prev' marks' s a b e g o q =
      let here : get_or prev' (start + i) 0 ≡ get_or prev (start + i) 0 = s.next.over (start + i) (omega arith) in
      let is : v ≡ marks_of high start prev i = e ∙ ap (λ (d : ℕ). mark_of d (high (start + i))) here in
      let k : start + i + 1 ≡ start + (i + 1) = omega arith in
      record {
        next = subst (λ (n : ℕ). Filled low start n prev (set prev' (start + i) l)) k
            (filled_more low start (start + i) l prev prev' s.next (omega arith) a g);
        marked = filled_more _ 0 i v marks marks' s.marked (omega arith) b is;
        deep = λ j c. marked' j c (dec_le i j);
        under = λ n c d. in-turn n c d (dec_le (start + i) n);
        bare = λ z. omega (
          arith,
          z (start + i) (omega arith) (omega arith),
          get_or-set_same prev' (start + i) l 0 (omega (arith, s.next.same)),
          s.bare (λ n c d. sym (get_or-set_other prev' (start + i) n l 0 (omega arith)) ∙ z n c (omega arith)),
        );
      }
    where
      marked' : (j : ℕ) → j < i + 1 → Dec (i ≤ j) → get_or (set marks' i v) j 0 ≤ u
      marked' j c (yes h) = let k : j ≡ i = omega arith in rw k (omega (arith, get_or-set_same marks' i v 0 (omega (arith, s.marked.same))))
      marked' j c (no h) = omega (arith, get_or-set_other marks' i j v 0 (omega arith), s.deep j (omega arith))

      in-turn : (n : ℕ) → start ≤ n → n < start + (i + 1) → Dec (start + i ≤ n) → get_or (set prev' (start + i) l) n 0 ≤ t
      in-turn n c d (yes h) = let k : n ≡ start + i = omega arith in
          rw k (omega (arith, get_or-set_same prev' (start + i) l 0 (omega (arith, s.next.same))))
      in-turn n c d (no h) = omega (arith, get_or-set_other prev' (start + i) n l 0 (omega arith), s.under n c (omega arith))

-- the same with other numbers that agree
pub sweep-as : (low high low' high' : ℕ → ℕ) (start number : ℕ) (prev prev' marks marks' : List ℕ) (deepest top : ℕ)
    → Sweep low high start number prev prev' marks marks' deepest top
    → ((n : ℕ) → start ≤ n → n < start + number → (low n ≡ low' n) × (high n ≡ high' n))
    → Sweep low' high' start number prev prev' marks marks' deepest top
sweep-as low high low' high' start number prev prev' marks marks' deepest top s e =
    record {
      next = filled-as low low' start (start + number) prev prev' s.next (λ n a b. (e n a b).0);
      marked = filled-as _ _ 0 number marks marks' s.marked (λ i a b. same i (omega arith));
      deep = s.deep;
      under = s.under;
      bare = s.bare;
    }
  where
    same : (i : ℕ) → i < number → marks_of high start prev i ≡ marks_of high' start prev i
    same i h = ap (mark_of (get_or prev (start + i) 0)) (e (start + i) (omega arith) (omega arith)).1

-- ---- windows of a map that is 0 along its border

over_zero : (v : ℕ) → max 0 v ≡ v
over_zero v = omega arith

zero-least : (v : ℕ) → min 0 v ≡ 0
zero-least v = omega arith

least_zero : (v : ℕ) → min v 0 ≡ 0
least_zero v = omega arith

module _ (p : Head) (m : List ℕ) (edge : Margin p 1 m) where
  abbrev w : ℕ
  w = p.width

  -- three bytes side by side are three cells of a row: past an end of the row stands the other end of the next, which is 0
  row-flat : (x y n : ℕ) → x < w → y < p.height → n ≡ y * w + x → 1 ≤ n → n + 1 < area p
      → ◌≡◌ {A = List ℕ} (get_or m (n - 1) 0 ∷ get_or m n 0 ∷ get_or m (n + 1) 0 ∷ [])
      (at p m (west (cell x y)) ∷ at p m (cell x y) ∷ at p m (east (cell x y)) ∷ [])
  row-flat x y n a b e f g =
      three (left x y a b e f) (ap (λ (i : ℕ). get_or m i 0) e ∙ sym (at-cell p m x y a b)) (right (dec_le (suc (suc x)) w))
    where
      left : (x y : ℕ) → x < w → y < p.height → n ≡ y * w + x → 1 ≤ n → get_or m (n - 1) 0 ≡ at p m (west (cell x y))
      left zero zero a b e f = absurd (omega arith)
      left zero (suc y) a b e f =
          let k : n - 1 ≡ y * w + (w - 1) = omega (arith, suc-mul y w) in
          ap (λ (i : ℕ). get_or m i 0) k ∙ edge.east (w - 1) y (omega arith) (omega arith) (omega arith)
      left (suc x) y a b e f =
          let k : n - 1 ≡ y * w + x = omega arith in
          ap (λ (i : ℕ). get_or m i 0) k ∙ sym (at-cell p m x y (omega arith) b)

      right : Dec (suc (suc x) ≤ w) → get_or m (n + 1) 0 ≡ at p m (east (cell x y))
      right (yes h) =
          let k : n + 1 ≡ y * w + suc x = omega arith in
          ap (λ (i : ℕ). get_or m i 0) k ∙ sym (at-cell p m (suc x) y h b)
      right (no h) =
          let k : n + 1 ≡ suc y * w + 0 = omega (arith, suc-mul y w) in
          let l : w ≤ suc x = omega arith in
          let z : at p m (cell (suc x) y) ≡ 0 = rw (le-ltb _ _ l) in
          ap (λ (i : ℕ). get_or m i 0) k ∙ edge.west 0 (suc y) (omega arith) (below (dec_le p.height (suc y))) (omega arith) ∙ sym z
        where
          below : Dec (p.height ≤ suc y) → suc y < p.height
          below (yes o) = absurd (omega (arith, mul-le-mul_right w o, suc-mul y w))
          below (no o) = omega arith

  -- so the nine bytes about a place are its cell's window
  window-flat : (x y : ℕ) → x < w → y < p.height → w + 1 ≤ y * w + x → y * w + x + w + 1 < area p
      → window_in m w (y * w + x) ≡ window_of p m (cell x y)
  window-flat x zero a b f g = absurd (omega arith)
  window-flat x (suc y) a b f g =
      three
      (row-flat x y (suc y * w + x - w) a (omega arith) (omega (arith, suc-mul y w)) (omega arith) (omega arith))
      (row-flat x (suc y) (suc y * w + x) a b refl (omega arith) (omega arith))
      (row-flat x (suc (suc y)) (suc y * w + x + w) a (below (dec_le p.height (suc (suc y)))) (omega (arith, suc-mul (suc y) w)) (omega arith) (omega arith))
    where
      below : Dec (p.height ≤ suc (suc y)) → suc (suc y) < p.height
      below (yes o) = absurd (omega (arith, mul-le-mul_right w o, suc-mul (suc y) w))
      below (no o) = omega arith

  -- the lowest and the highest of the nine bytes are those of the cell and its neighbours
  pub flat_near : (n : ℕ) → 1 ≤ w → w + 1 ≤ n → n + w + 1 < area p → (low_in p.kind w m n ≡ low_near p m n) × (high_in p.kind w m n ≡ high_near p m n)
  flat_near n pos f g =
      let k : n / w * w + n % w ≡ n = div-add-mod' n w in
      let same : window_in m w n ≡ window_of p m (place_cell w n) =
      ap (window_in m w) (sym k) ∙ window-flat (n % w) (n / w) (mod-lt n pos) ((div-lt_iff_lt-mul pos).1 (omega arith)) (omega arith) (omega arith) in (
        ap (window_min p.kind) same ∙ window-min-near p m (place_cell w n),
        ap (window_max p.kind) same ∙ window-max-near p m (place_cell w n),
      )

  -- ---- along the border

  zero_row : (x y : ℕ) → x < w → y < p.height → (y ≡ 0) ⊎ (p.height ≡ y + 1)
      → ◌≡◌ {A = List ℕ} (at p m (west (cell x y)) ∷ at p m (cell x y) ∷ at p m (east (cell x y)) ∷ []) (0 ∷ 0 ∷ 0 ∷ [])
  zero_row x y a b o = three (left x a) (here x a) (right (dec_le (suc (suc x)) w))
    where
      on : (x : ℕ) → x < w → (y ≡ 0) ⊎ (p.height ≡ y + 1) → get_or m (y * w + x) 0 ≡ 0
      on x a (inl e) = edge.north x y a b (omega arith)
      on x a (inr e) = edge.south x y a b (omega arith)

      here : (x : ℕ) → x < w → at p m (cell x y) ≡ 0
      here x a = at-cell p m x y a b ∙ on x a o

      left : (x : ℕ) → x < w → at p m (west (cell x y)) ≡ 0
      left zero a = refl
      left (suc x) a = here x (omega arith)

      right : Dec (suc (suc x) ≤ w) → at p m (east (cell x y)) ≡ 0
      right (yes h) = here (suc x) h
      right (no h) = let l : w ≤ suc x = omega arith in rw (le-ltb _ _ l)

  off-row : (x y : ℕ) → p.height ≤ y
      → ◌≡◌ {A = List ℕ} (at p m (west (cell x y)) ∷ at p m (cell x y) ∷ at p m (east (cell x y)) ∷ []) (0 ∷ 0 ∷ 0 ∷ [])
  off-row x y h = three (left x) (here x) (here (suc x))
    where
      here : (x : ℕ) → at p m (cell x y) ≡ 0
      here x = go (ltb x w)
        where
          go : (t : Bool) → cond t (cond (ltb y p.height) (get_or m (y * w + x) 0) 0) 0 ≡ 0
          go true = rw (le-ltb _ _ h)
          go false = refl

      left : (x : ℕ) → at p m (west (cell x y)) ≡ 0
      left zero = refl
      left (suc x) = here x

  -- a window of the first row, and one of the last
  top-window : (x : ℕ) → x < w → 3 ≤ p.height → 1 ≤ w → window_of p m (cell x 0) ≡ beside_window m (w + x)
  top-window x a h pos =
      three (above x) (zero_row x 0 a (omega arith) (inl refl))
      (sym (row-flat x 1 (w + x) a (omega arith) (omega (arith, suc-mul 0 w, zero-mul w)) (omega arith)
      (omega (arith, mul-le-mul_right w h, suc-mul 2 w, suc-mul 1 w, suc-mul 0 w, zero-mul w))))
    where
      above : (x : ℕ) → ◌≡◌ {A = List ℕ} (at p m (north (west (cell x 0))) ∷ at p m (north (cell x 0)) ∷ at p m (north (east (cell x 0))) ∷ []) (0 ∷ 0 ∷ 0 ∷ [])
      above zero = refl
      above (suc x) = refl

  flipped : (kd : Kind) (a b c : ℕ) → window_max kd ((a ∷ b ∷ c ∷ []) ∷ (0 ∷ 0 ∷ 0 ∷ []) ∷ (0 ∷ 0 ∷ 0 ∷ []) ∷ [])
      ≡ window_max kd ((0 ∷ 0 ∷ 0 ∷ []) ∷ (0 ∷ 0 ∷ 0 ∷ []) ∷ (a ∷ b ∷ c ∷ []) ∷ [])
  flipped Diamond a b c = omega arith
  flipped Square a b c = sym (over_zero _ ∙ over_zero _ ∙ over_zero _ ∙ over_zero _ ∙ over_zero _)

  -- the window of a row along the border has 0 in its middle
  low-zero : (kd : Kind) (r s : List ℕ) → window_min kd (r ∷ (0 ∷ 0 ∷ 0 ∷ []) ∷ s ∷ []) ≡ 0
  low-zero Diamond r s = ap (min (get_or r 1 0)) (zero-least _) ∙ least_zero _
  low-zero Square r s =
      ap (λ (v : ℕ). min (get_or r 0 0) (min (get_or r 1 0) (min (get_or r 2 0) v))) (zero-least _)
      ∙ ap (λ (v : ℕ). min (get_or r 0 0) (min (get_or r 1 0) v)) (least_zero _) ∙ ap (min (get_or r 0 0)) (least_zero _) ∙ least_zero _

  -- the lowest and the highest about a place of the first row; of the last
  pub top-near : (n : ℕ) → n < w → 3 ≤ p.height → (0 ≡ low_near p m n) × (window_max p.kind (beside_window m (w + n)) ≡ high_near p m n)
  top-near n a h =
      let k : 0 * w + n ≡ n = omega (arith, zero-mul w) in
      let c : place_cell w n ≡ cell n 0 = ap (place_cell w) (sym k) ∙ ap₂ cell (digits_mod 0 a) (digits_div 0 a) in
      let e : window_of p m (place_cell w n) ≡ beside_window m (w + n) = ap (window_of p m) c ∙ top-window n a h (omega arith) in (
        sym (low-zero p.kind _ _) ∙ ap (window_min p.kind) (sym e) ∙ window-min-near p m (place_cell w n),
        ap (window_max p.kind) (sym e) ∙ window-max-near p m (place_cell w n),
      )

  bottom-window : (x y n : ℕ) → x < w → p.height ≡ y + 1 → 3 ≤ p.height → n ≡ y * w + x
      → window_of p m (cell x y) ≡ (get_or m (n - w - 1) 0 ∷ get_or m (n - w) 0 ∷ get_or m (n - w + 1) 0 ∷ []) ∷ (0 ∷ 0 ∷ 0 ∷ []) ∷ (0 ∷ 0 ∷ 0 ∷ []) ∷ []
  bottom-window x zero n a e h k = absurd (omega arith)
  bottom-window x (suc zero) n a e h k = absurd (omega arith)
  bottom-window x (suc (suc y)) n a e h k =
      let f = suc-mul (suc y) w in
      let g = suc-mul y w in
      let u : area p ≡ suc (suc (suc y)) * w = ap (λ (i : ℕ). i * w) (e ∙ add-one (suc (suc y))) in
      let v = suc-mul (suc (suc y)) w in
      three
      (sym (row-flat x (suc y) (n - w) a (omega arith) (omega arith) (omega arith) (omega arith)))
      (zero_row x (suc (suc y)) a (omega arith) (inr e))
      (off-row x (suc (suc (suc y))) (omega arith))

  pub bottom-near : (n : ℕ) → 1 ≤ w → area p ≤ n + w → n < area p → 3 ≤ p.height
      → (0 ≡ low_near p m n) × (window_max p.kind (beside_window m (n - w)) ≡ high_near p m n)
  bottom-near n pos l a h =
      let k : n / w * w + n % w ≡ n = div-add-mod' n w in
      let y : n / w < p.height = (div-lt_iff_lt-mul pos).1 a in
      let last : p.height ≡ n / w + 1 = at_last (dec_le (suc (suc (n / w))) p.height) in
      let e = bottom-window (n % w) (n / w) n (mod-lt n pos) last h (sym k) in (
        sym (low-zero p.kind _ _) ∙ ap (window_min p.kind) (sym e) ∙ window-min-near p m (place_cell w n),
        sym (flipped p.kind _ _ _) ∙ ap (window_max p.kind) (sym e) ∙ window-max-near p m (place_cell w n),
      )
    where
      at_last : Dec (suc (suc (n / w)) ≤ p.height) → p.height ≡ n / w + 1
      at_last (no o) = let y : n / w < p.height = (div-lt_iff_lt-mul pos).1 a in omega arith
      at_last (yes o) =
          absurd (omega (arith, mul-le-mul_right w o, suc-mul (suc (n / w)) w, suc-mul (n / w) w, div-add-mod' n w, mod-lt n pos))

  -- so a sweep of places in the first row, or in the last, is one by the cells' windows
  module _ (start number : ℕ) (prev prev' marks marks' : List ℕ) (deepest top : ℕ) (pos : 1 ≤ w) (rows : 3 * w ≤ area p) where
    three-rows : 3 ≤ p.height
    three-rows = go (dec_le 3 p.height)
      where
        go : Dec (3 ≤ p.height) → 3 ≤ p.height
        go (yes l) = l
        go (no l) =
            let o : p.height ≤ 2 = omega arith in
            absurd (omega (arith, mul-le-mul_right w o))

    pub edge-top : start + number ≤ w → Sweep (λ n. 0) (high_beside p.kind (start + w) start m) start number prev prev' marks marks' deepest top
        → Sweep (low_near p m) (high_near p m) start number prev prev' marks marks' deepest top
    edge-top h s =
        sweep-as _ _ _ _ start number prev prev' marks marks' deepest top s
        (λ n a b.
        let e : start + w + (n - start) ≡ w + n = omega arith in
        let t = top-near n (omega arith) three-rows in
        (t.0, ap (λ (j : ℕ). window_max p.kind (beside_window m j)) e ∙ t.1))

    pub edge-bottom : area p ≤ start + w → start + number ≤ area p
        → Sweep (λ n. 0) (high_beside p.kind (start - w) start m) start number prev prev' marks marks' deepest top
        → Sweep (low_near p m) (high_near p m) start number prev prev' marks marks' deepest top
    edge-bottom h l s =
        sweep-as _ _ _ _ start number prev prev' marks marks' deepest top s
        (λ n a b.
        let e : start - w + (n - start) ≡ n - w = omega arith in
        let t = bottom-near n pos (omega arith) (omega arith) three-rows in
        (t.0, ap (λ (j : ℕ). window_max p.kind (beside_window m j)) e ∙ t.1))
