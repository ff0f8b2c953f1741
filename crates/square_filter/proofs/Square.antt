-- Laws of a pass in place for the highest of a square: the highest of nine by threes, a stretch of a row, row after row.
use mathlib.Core.Path.{◌≡◌, sym, ap, ap₂, ◌∙◌}
use mathlib.Core.List.{List, [], ◌∷◌}
use Prim.Native.Nat.{ℕ, suc, ◌+◌, ◌*◌, ◌-◌, ◌≤◌, ◌<◌, max}
use native.Mathlib.Omega.{arith}
use native.Mathlib.Decide.{dec_le}
use native.Mathlib.Nat.{suc-mul}
use lib.ListN.{length, get_or, set}
use Rattle.geometry.specs.declared.Kind.{Kind}
use Rattle.geometry.specs.declared.Kind.TheVariants.{Square}
use Rattle.geometry.specs.declared.Head.{Head}
use Rattle.geometry.specs.Plane.{cell}
use Rattle.geometry.specs.Plate.{at}
use Rattle.window.specs.Windows.{window_of, window_max}
use Rattle.window.specs.Places.{before}
use Rattle.window.proofs.Windows.{window-is, of-max}
use Rattle.buffers.specs.Fill.{Mapped}
use Rattle.buffers.specs.Margin.{Margin}
use Rattle.buffers.proofs.Fill.{filled_none, filled_more, filled-end}
use Rattle.row_arrays.specs.Rows.{margin, row_places}
use Rattle.row_arrays.proofs.Rows.{zeros, row-zeros}
use Rattle.row_filter.specs.declared.Leaf.TheVariants as v
use Rattle.row_filter.specs.Filter.{leaf}
use Rattle.square_filter.specs.Square.{highest_three, SquaredRun}
use Rattle.row_filter.proofs.InPlace.{DoneTo, on, north-off, done_none, done_more, done_all, rest-row}

-- ---- nine numbers by threes

past : (a b c : ℕ) → max a (max b c) ≡ max b (max a c)
past a b c = omega arith

in_order : (a n b w m e d s g : ℕ)
    → max (max (max (max a b) n) (max (max w e) m)) (max (max d g) s) ≡ max a (max n (max b (max w (max e (max d (max s (max g m)))))))
in_order a n b w m e d s g = simp (of-max.swap, of-max.shift, past)

-- the highest of a square is the highest of its rows' highest
pub nine-by-threes : (a n b w m e d s g : ℕ)
    → max (max (max (max a b) n) (max (max w e) m)) (max (max d g) s)
    ≡ window_max Square ((a ∷ n ∷ b ∷ []) ∷ (w ∷ m ∷ e ∷ []) ∷ (d ∷ s ∷ g ∷ []) ∷ [])
nine-by-threes a n b w m e d s g = in_order a n b w m e d s g

-- ---- a stretch of a row

module _ (from w : ℕ) (above₀ mid map₀ : List ℕ) where
  pub squared-none : SquaredRun from w 0 above₀ mid above₀ map₀ map₀
  squared-none = record { above-is = filled_none _ _ _; map_is = filled-end _ _ _ _ _ _ (omega arith) (omega arith) (filled_none _ from _) }

  -- one number more: the row below is still as it was
  pub squared-more : (i three v : ℕ) (above map : List ℕ) → 1 ≤ w → SquaredRun from w i above₀ mid above map₀ map
      → i < length above₀ → from + i < length map₀
      → three ≡ highest_three map (from + w + i) → v ≡ max (max (get_or above i 0) (get_or mid i 0)) three
      → SquaredRun from w (i + 1) above₀ mid (set above i three) map₀ (set map (from + i) v)
  squared-more i three v above map some r g h t u =
      record {
        above-is = filled_more _ _ _ _ _ _ r.above-is (omega arith) g below;
        map_is = filled-end _ _ _ _ _ _ (omega arith) (omega arith) (filled_more _ _ _ _ _ _ r.map_is (omega arith) h here);
      }
    where
      below : three ≡ highest_three map₀ (from + w + i)
      below =
          t
          ∙ simp
          (r.map_is.over (from + w + i - 1) (omega arith), r.map_is.over (from + w + i) (omega arith), r.map_is.over (from + w + i + 1) (omega arith))

      here : v ≡ max (max (get_or above₀ (from + i - from) 0) (get_or mid (from + i - from) 0)) (highest_three map₀ (from + i + w))
      here =
          let k : i ≡ from + i - from = omega arith in
          let l : from + w + i ≡ from + i + w = omega arith in
          u ∙ ap₂ max (ap₂ max (r.above-is.over i (omega arith) ∙ ap (λ (j : ℕ). get_or above₀ j 0) k) (ap (λ (j : ℕ). get_or mid j 0) k))
          (below ∙ ap (highest_three map₀) l)

-- ---- row after row

zeros-at : (n : ℕ) → get_or zeros n 0 ≡ 0
zeros-at n = go (dec_le margin n)
  where
    go : Dec (margin ≤ n) → get_or zeros n 0 ≡ 0
    go (yes h) = (row-zeros 0).margins.over n (omega arith)
    go (no h) = (row-zeros 0).margins.under n (omega arith)

module _ (p : Head) (e : ℕ) (m : List ℕ) where
  abbrev w : ℕ
  w = p.width

  abbrev inner : ℕ
  inner = p.width - 2 * e

  -- the highest of three in row j - 1, the middle one x columns from the edge
  abbrev three : ℕ → ℕ → ℕ
  three j x = max (max (at p m (before (e + x) j)) (at p m (before (e + x + 2) j))) (at p m (before (e + x + 1) j))

  -- rows above y are done, and the threes of two rows stand in arrays
  pub record SquaredTo (y : ℕ) (above mid map : List ℕ) : Type 0 where
    pub to : DoneTo p e m v.Highest y map
    pub above-is : (x : ℕ) → x < inner → get_or above x 0 ≡ three y x
    pub mid-is : (x : ℕ) → x < inner → get_or mid x 0 ≡ three (y + 1) x
    pub above-size : length above ≡ row_places
    pub mid-size : length mid ≡ row_places

  module _ (clear : 1 ≤ e → Margin p (e + 1) m) (some : 1 ≤ e) (wide : 2 * e < p.width) where
    three-clear : (j x : ℕ) → j ≤ e + 1 → get_or zeros x 0 ≡ three j x
    three-clear j x l =
        zeros-at x ∙ sym (ap₂ max (ap₂ max (zero (e + x)) (zero (e + x + 2))) (zero (e + x + 1)))
      where
        zero : (i : ℕ) → at p m (before i j) ≡ 0
        zero i = north-off p e m (e + 1) (clear some) i j l

    pub squared-to-none : 2 * e < p.height → SquaredTo e zeros zeros m
    squared-to-none tall =
        record {
          to = done_none p e m clear v.Highest tall;
          above-is = λ x l. three-clear e x (omega arith);
          mid-is = λ x l. three-clear (e + 1) x (omega arith);
          above-size = (row-zeros 0).margins.size;
          mid-size = (row-zeros 0).margins.size;
        }

    -- the threes of the row below, which is still as it was
    three-below : (y : ℕ) (map : List ℕ) → DoneTo p e m v.Highest y map → y + e < p.height → (x : ℕ) → x < inner
        → highest_three map (y * w + e + w + x) ≡ three (y + 2) x
    three-below y map a h x l =
        ap₂ max (ap₂ max (number (y * w + e + w + x - 1) (e + x) (e + x - 1) (omega arith) (omega arith) (omega arith))
        (number (y * w + e + w + x + 1) (e + x + 2) (e + x + 1) (omega arith) (omega arith) (omega arith)))
        (number (y * w + e + w + x) (e + x + 1) (e + x) (omega arith) (omega arith) (omega arith))
      where
        -- the number at place n, which is column c
        number : (n i c : ℕ) → c < w → i ≡ suc c → n ≡ y * w + w + c → get_or map n 0 ≡ at p m (before i (y + 2))
        number n i c g k u =
            let place : n ≡ (y + 1) * w + c = omega (arith, suc-mul y w) in
            ap (λ (n : ℕ). get_or map n 0) place ∙ rest-row p e m clear v.Highest y map wide a (y + 1) c (omega arith)
            ∙ sym (on p e m i (y + 2) c (y + 1) k (omega arith) g (omega arith))

    -- a row more, and the arrays change roles
    pub squared-to-more : (y : ℕ) (above mid map above' new : List ℕ) → p.kind ≡ Square → SquaredTo y above mid map → y + e < p.height
        → SquaredRun (y * w + e) w inner above mid above' map new → SquaredTo (y + 1) mid above' new
    squared-to-more y above mid map above' new square a tall r =
        record {
          to = done_more p e m clear v.Highest y map new _ wide a.to tall r.map_is windows;
          above-is = a.mid-is;
          mid-is = λ x l. let k : y + 2 ≡ y + 1 + 1 = omega arith in
              r.above-is.inside x (omega arith) l ∙ three-below y map a.to tall x l ∙ ap (λ (j : ℕ). three j x) k;
          above-size = a.mid-size;
          mid-size = r.above-is.same ∙ a.above-size;
        }
      where
        windows : (x : ℕ) → x < inner
            → max (max (get_or above (y * w + e + x - (y * w + e)) 0) (get_or mid (y * w + e + x - (y * w + e)) 0)) (highest_three map (y * w + e + x + w))
            ≡ window_max p.kind (window_of p m (cell (e + x) y))
        windows x l =
            let i : y * w + e + x - (y * w + e) ≡ x = omega arith in
            let k : y * w + e + x + w ≡ y * w + e + w + x = omega arith in
            ap₂ max (ap₂ max (ap (λ (j : ℕ). get_or above j 0) i ∙ a.above-is x l) (ap (λ (j : ℕ). get_or mid j 0) i ∙ a.mid-is x l))
            (ap (highest_three map) k ∙ three-below y map a.to tall x l)
            ∙ nine-by-threes _ _ _ _ _ _ _ _ _
            ∙ ap (window_max Square) (window-is p m (e + x) y)
            ∙ ap (λ (k : Kind). window_max k (window_of p m (cell (e + x) y))) (sym square)

    pub squared-to-all : (y : ℕ) (above mid map : List ℕ) → SquaredTo y above mid map → p.height ≤ y + e
        → Mapped p (λ c. leaf v.Highest p.kind (window_of p m c)) m map
    squared-to-all y above mid map a h = done_all p e m clear v.Highest y map wide a.to h
