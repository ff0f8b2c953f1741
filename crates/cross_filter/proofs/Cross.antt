-- Laws of a pass in place for the highest of a diamond: a stretch of a row, row after row.
use mathlib.Core.Path.{◌≡◌, sym, ap, ap₂, ◌∙◌}
use mathlib.Core.List.{List}
use Prim.Native.Nat.{ℕ, suc, ◌+◌, ◌*◌, ◌-◌, ◌≤◌, ◌<◌}
use native.Mathlib.Omega.{arith}
use native.Mathlib.Decide.{dec_le}
use native.Mathlib.Nat.{suc-mul}
use borrow.Author.Tests.{lt-ltb, le-ltb}
use lib.ListN.{length, get_or, set}
use Rattle.geometry.specs.declared.Kind.{Kind}
use Rattle.geometry.specs.declared.Kind.TheVariants.{Diamond}
use Rattle.geometry.specs.declared.Head.{Head}
use Rattle.window.specs.Windows.{window_max}
use Rattle.buffers.specs.Margin.{Margin}
use Rattle.buffers.proofs.Fill.{filled_none, filled_more, filled-end, filled-as}
use Rattle.row_arrays.specs.Rows.{margin}
use Rattle.row_arrays.proofs.Rows.{zeros, row-zeros, margins-filled}
use Rattle.row_filter.specs.declared.Leaf.TheVariants as v
use Rattle.row_filter.specs.Filter.{leaf, window_rows, row_of, FilteredRow}
use Rattle.cross_filter.specs.Cross.{cross_window, CrossedRun}
use Rattle.row_filter.proofs.InPlace.{FilteredTo, filtered-none, filtered-more, rest-row}

-- ---- a stretch of a row

module _ (from w : ℕ) (above mid below₀ map₀ : List ℕ) where
  pub crossed-none : CrossedRun from w 0 above mid below₀ below₀ map₀ map₀
  crossed-none =
      record {
        below-is = filled-end _ _ _ _ _ _ (omega arith) (omega arith) (filled_none _ margin _);
        map_is = filled-end _ _ _ _ _ _ (omega arith) (omega arith) (filled_none _ from _);
      }

  -- one number more: the row below is still as it was
  pub crossed-more : (i under v : ℕ) (below map : List ℕ) → 1 ≤ w → CrossedRun from w i above mid below₀ below map₀ map
      → margin + i < length below₀ → from + i < length map₀
      → under ≡ get_or map (from + w + i) 0 → v ≡ window_max Diamond (cross_window above mid (margin + i) under)
      → CrossedRun from w (i + 1) above mid below₀ (set below (margin + i) under) map₀ (set map (from + i) v)
  crossed-more i under v below map some r g h t u =
      record {
        below-is = filled-end _ _ _ _ _ _ (omega arith) (omega arith) (filled_more _ _ _ _ _ _ r.below-is (omega arith) g there);
        map_is = filled-end _ _ _ _ _ _ (omega arith) (omega arith) (filled_more _ _ _ _ _ _ r.map_is (omega arith) h here);
      }
    where
      number : under ≡ get_or map₀ (from + w + i) 0
      number = t ∙ r.map_is.over (from + w + i) (omega arith)

      there : under ≡ get_or map₀ (from + w + (margin + i - margin)) 0
      there = let k : i ≡ margin + i - margin = omega arith in number ∙ ap (λ (j : ℕ). get_or map₀ (from + w + j) 0) k

      here : v ≡ window_max Diamond (cross_window above mid (margin + (from + i - from)) (get_or map₀ (from + i + w) 0))
      here =
          let k : i ≡ from + i - from = omega arith in
          let l : from + w + i ≡ from + i + w = omega arith in
          u ∙ ap₂ (λ (j n : ℕ). window_max Diamond (cross_window above mid (margin + j) n)) k (number ∙ ap (λ (j : ℕ). get_or map₀ j 0) l)

-- ---- row after row

module _ (p : Head) (e : ℕ) (m : List ℕ) (clear : 1 ≤ e → Margin p (e + 1) m) (some : 1 ≤ e) (wide : 2 * e < p.width) where
  abbrev w : ℕ
  w = p.width

  abbrev inner : ℕ
  inner = p.width - 2 * e

  -- the first row and the one above it have zeros
  pub crossed-to-none : 2 * e < p.height → FilteredTo p e m v.Highest e zeros zeros zeros m
  crossed-to-none tall = filtered-none p e m clear v.Highest zeros wide tall (record { margins = (row-zeros inner).margins; cells = first })
    where
      first : (x : ℕ) → x < inner → get_or zeros (margin + x) 0 ≡ row_of p e m e x
      first x l =
          let t : e + e < p.height = omega arith in
          let i : e * w + e + x ≡ e * w + (e + x) = omega arith in
          rw (lt-ltb _ _ t) ((row-zeros inner).cells x l ∙ sym (ap (λ (n : ℕ). get_or m n 0) i
          ∙ (clear some).north (e + x) e (omega arith) (omega arith) (omega arith)))

  -- a row more, and the arrays change roles
  pub crossed-to-more : (y : ℕ) (above mid below map below' new : List ℕ) → p.kind ≡ Diamond → FilteredTo p e m v.Highest y above mid below map
      → y + e < p.height → CrossedRun (y * w + e) w inner above mid below below' map new → FilteredTo p e m v.Highest (y + 1) mid below' above new
  crossed-to-more y above mid below map below' new diamond a tall r =
      filtered-more p e m clear v.Highest y above mid below map below' new wide a tall row
    where
      -- the row below: between the edges as it is read, under them zeros
      under : (x : ℕ) → x < inner → Dec (suc (y + 1 + e) ≤ p.height) → get_or map ((y + 1) * w + e + x) 0 ≡ row_of p e map (y + 1) x
      under x l (yes h) = rw (lt-ltb _ _ h)
      under x l (no h) =
          let g : p.height ≤ y + 1 + e = omega arith in
          let i : (y + 1) * w + e + x ≡ (y + 1) * w + (e + x) = omega arith in
          rw (le-ltb _ _ g) (ap (λ (n : ℕ). get_or map n 0) i ∙ rest-row p e m clear v.Highest y map wide a.to (y + 1) (e + x) (omega arith)
          ∙ (clear some).south (e + x) (y + 1) (omega arith) (omega arith) (omega arith))

      cells : (x : ℕ) → x < inner → get_or below' (margin + x) 0 ≡ row_of p e map (y + 1) x
      cells x l =
          let k : y * w + e + w + (margin + x - margin) ≡ (y + 1) * w + e + x = omega (arith, suc-mul y w) in
          r.below-is.inside (margin + x) (omega arith) (omega arith) ∙ ap (λ (n : ℕ). get_or map n 0) k ∙ under x l (dec_le (suc (y + 1 + e)) p.height)

      -- of the diamond the corners say nothing
      windows : (n : ℕ) → y * w + e ≤ n → n < y * w + e + inner
          → window_max Diamond (cross_window above mid (margin + (n - (y * w + e))) (get_or map (n + w) 0))
          ≡ leaf v.Highest p.kind (window_rows above mid below' (margin + (n - (y * w + e))))
      windows n g h =
          let i = margin + (n - (y * w + e)) in
          let k : n + w ≡ y * w + e + w + (margin + (n - (y * w + e)) - margin) = omega arith in
          let u : get_or map (n + w) 0 ≡ get_or below' (margin + (n - (y * w + e))) 0 =
          ap (λ (j : ℕ). get_or map j 0) k ∙ sym (r.below-is.inside (margin + (n - (y * w + e))) (omega arith) (omega arith)) in
          ap (λ (u : ℕ). window_max Diamond (cross_window above mid i u)) u
          ∙ ap (λ (k : Kind). window_max k (window_rows above mid below' i)) (sym diamond)

      row : FilteredRow p v.Highest e y above mid below' map new
      row =
          record {
            map_is = filled-as _ _ _ _ _ _ r.map_is windows;
            below-is = record { margins = margins-filled _ inner below below' a.below-margins r.below-is; cells = cells };
          }
