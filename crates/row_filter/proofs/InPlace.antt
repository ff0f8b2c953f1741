-- Laws of a pass in place: rows between the edges in arrays, their windows, what holds after some rows, and that the edges stay 0.
use mathlib.Core.Path.{◌≡◌, refl, sym, ap, ◌∙◌, subst}
use mathlib.Core.List.{List, [], ◌∷◌}
use Prim.Native.Nat.{ℕ, zero, suc, ◌+◌, ◌*◌, ◌-◌, ◌≤◌, ◌<◌, max}
use native.Mathlib.Omega.{arith}
use native.Mathlib.Decide.{dec_le}
use native.Mathlib.Nat.{suc-mul}
use borrow.Author.Tests.{lt-ltb, le-ltb}
use lib.ListN.{length, get_or}
use Rattle.geometry.specs.declared.Kind.{Kind}
use Rattle.geometry.specs.declared.Kind.TheVariants.{Diamond, Square}
use Rattle.geometry.specs.declared.Head.{Head}
use Rattle.geometry.specs.Plane.{cell}
use Rattle.geometry.specs.Plate.{at}
use Rattle.window.specs.Windows.{window_of}
use Rattle.window.specs.Places.{before}
use Rattle.window.proofs.Windows.{window-is, window-max-near}
use Rattle.theory.specs.Erosion.{highest_near}
use Rattle.theory.proofs.Plate.{at-cell}
use Rattle.buffers.specs.Fill.{Filled, Mapped}
use Rattle.buffers.specs.Margin.{Margin}
use Rattle.buffers.proofs.Fill.{row_under}
use Rattle.buffers.proofs.Rooms.{row_room}
use Rattle.row_arrays.specs.declared.Seeds.TheVariants.{Numbers}
use Rattle.row_arrays.specs.Rows.{margin, Margins, Row}
use Rattle.row_arrays.specs.Start.{seed}
use Rattle.row_arrays.proofs.Rows.{zeros, row-zeros, margins-filled, row_loaded}
use Rattle.row_filter.specs.declared.Leaf.{Leaf}
use Rattle.row_filter.specs.declared.Leaf.TheVariants as v
use Rattle.row_filter.specs.Filter.{window_rows, leaf, row_of, Growable, Readable, FilteredRow}

-- ---- rows in arrays

module _ (p : Head) (e : ℕ) where
  abbrev w : ℕ
  w = p.width

  abbrev inner : ℕ
  inner = p.width - 2 * e

  -- a row's stretch between the edges lies in the map
  pub row-stretch : (m : List ℕ) (k y : ℕ) (row : List ℕ) → Readable p e m k row → y < p.height → y * w + e + inner ≤ length m
  row-stretch m k y row a h = let some = a.some in omega (arith, row_room w y p.height (length m) h a.long)

  -- with an edge it lies there with the stretch below it
  pub row-and-below : (m : List ℕ) (y : ℕ) (row : List ℕ) → Growable p e y row m → y * w + e + w + inner < length m
  row-and-below m y row a =
      let some = a.edge in
      let wide = a.columns in
      omega (arith, suc-mul y w, row_room w (y + 1) p.height (length m) (let here = a.here in omega arith) a.long)

  pub row_read : (m : List ℕ) (y : ℕ) (row row' : List ℕ) → Margins inner row → y + e < p.height
      → Filled (λ n. max (seed Numbers (get_or m (y * w + e + (n - margin)) 0)) 0) margin (margin + inner) row row' → Row (row_of p e m y) inner row'
  row_read m y row row' a l h =
      let r = row_loaded inner (y * w + e) m row row' a h in record { margins = r.margins; cells = λ x g. r.cells x g ∙ rw (lt-ltb _ _ l) }

  pub row-cleared : (m : List ℕ) (y : ℕ) (row row' : List ℕ) → Margins inner row → p.height ≤ y + e
      → Filled (λ n. 0) margin (margin + inner) row row' → Row (row_of p e m y) inner row'
  row-cleared m y row row' a l h =
      record { margins = margins-filled _ inner row row' a h; cells = λ x g. h.inside (margin + x) (omega arith) (omega arith) ∙ rw (le-ltb _ _ l) }

  -- ---- what a map has outside the rows and columns that are filtered

  module _ (m : List ℕ) where
    -- off the plate a map is 0; on it by what is known
    off : (i j : ℕ) → ((x y : ℕ) → i ≡ suc x → j ≡ suc y → x < w → y < p.height → get_or m (y * w + x) 0 ≡ 0) → at p m (before i j) ≡ 0
    off zero zero h = refl
    off zero (suc y) h = refl
    off (suc x) zero h = refl
    off (suc x) (suc y) h = go (dec_le (suc x) w) (dec_le (suc y) p.height)
      where
        go : Dec (suc x ≤ w) → Dec (suc y ≤ p.height) → at p m (before (suc x) (suc y)) ≡ 0
        go (yes a) (yes b) = at-cell p m x y a b ∙ h x y refl refl a b
        go (yes a) (no b) = let g : p.height ≤ y = omega arith in rw (lt-ltb _ _ a, le-ltb _ _ g)
        go (no a) b = let g : w ≤ x = omega arith in rw (le-ltb _ _ g)

    pub on : (i j x y : ℕ) → i ≡ suc x → j ≡ suc y → x < w → y < p.height → at p m (before i j) ≡ get_or m (y * w + x) 0
    on i j x y e g a b = rw (e, g) (at-cell p m x y a b)

    module _ (k : ℕ) (h : Margin p k m) (i j : ℕ) where
      west-off : i ≤ k → at p m (before i j) ≡ 0
      west-off l = off i j (λ x y e g a b. h.west x y a b (omega arith))

      east-off : w < i + k → at p m (before i j) ≡ 0
      east-off l = off i j (λ x y e g a b. h.east x y a b (omega arith))

      pub north-off : j ≤ k → at p m (before i j) ≡ 0
      north-off l = off i j (λ x y e g a b. h.north x y a b (omega arith))

      south-off : p.height < j + k → at p m (before i j) ≡ 0
      south-off l = off i j (λ x y e g a b. h.south x y a b (omega arith))

    -- ---- after some rows

    -- row j - 1 of the map, from the edge on
    abbrev before-row : ℕ → ℕ → ℕ
    before-row j x = at p m (before (e + x + 1) j)

    -- a place of the rows from the edge up to y, between the edges
    abbrev Written : ℕ → ℕ → Type 0
    Written y n = (j : ℕ) × (x : ℕ) × (e ≤ j) × (j < y) × (x < inner) × (n ≡ j * w + e + x)

    -- rows above y are done, all else is as it was
    pub record DoneTo (lf : Leaf) (y : ℕ) (map : List ℕ) : Type 0 where
      pub from : e ≤ y
      pub within : y + e ≤ p.height
      pub same : length map ≡ length m
      pub done : (j x : ℕ) → e ≤ j → j < y → x < inner → get_or map (j * w + e + x) 0 ≡ leaf lf p.kind (window_of p m (cell (e + x) j))
      pub rest : (n : ℕ) → (Written y n → ⊥) → get_or map n 0 ≡ get_or m n 0

    -- and two rows stand in arrays
    pub record FilteredTo (lf : Leaf) (y : ℕ) (above mid below map : List ℕ) : Type 0 where
      pub to : DoneTo lf y map
      pub above-is : Row (before-row y) inner above
      pub mid-is : Row (before-row (y + 1)) inner mid
      pub below-margins : Margins inner below

  module _ (m : List ℕ) (clear : 1 ≤ e → Margin p (e + 1) m) where
    west-clear : (i j : ℕ) → i ≤ e → at p m (before i j) ≡ 0
    west-clear i j l = off m i j (λ x y g k a b. (clear (omega arith)).west x y a b (omega arith))

    east-clear : (i j : ℕ) → w < i + e → at p m (before i j) ≡ 0
    east-clear i j l = off m i j (λ x y g k a b. (clear (omega arith)).east x y a b (omega arith))

    north-clear : (i j : ℕ) → j ≤ e → at p m (before i j) ≡ 0
    north-clear i j l = off m i j (λ x y g k a b. (clear (omega arith)).north x y a b (omega arith))

    south-clear : (i j : ℕ) → p.height < j + e → at p m (before i j) ≡ 0
    south-clear i j l = off m i j (λ x y g k a b. (clear (omega arith)).south x y a b (omega arith))

    -- ---- windows

    module _ (j : ℕ) (row : List ℕ) (r : Row (before-row m j) inner row) where
      west : (x : ℕ) → x < inner → get_or row (margin + x - 1) 0 ≡ at p m (before (e + x) j)
      west zero h = r.margins.under (margin + 0 - 1) (omega arith) ∙ sym (west-clear (e + 0) j (omega arith))
      west (suc x) h =
          let g : margin + suc x - 1 ≡ margin + x = omega arith in
          let k : e + x + 1 ≡ e + suc x = omega arith in
          ap (λ (i : ℕ). get_or row i 0) g ∙ r.cells x (omega arith) ∙ ap (λ (i : ℕ). at p m (before i j)) k

      east : (x : ℕ) → x < inner → Dec (inner ≤ x + 1) → get_or row (margin + x + 1) 0 ≡ at p m (before (e + x + 2) j)
      east x h (yes l) = r.margins.over (margin + x + 1) (omega arith) ∙ sym (east-clear (e + x + 2) j (omega arith))
      east x h (no l) =
          let g : margin + x + 1 ≡ margin + (x + 1) = omega arith in
          let k : e + (x + 1) + 1 ≡ e + x + 2 = omega arith in
          ap (λ (i : ℕ). get_or row i 0) g ∙ r.cells (x + 1) (omega arith) ∙ ap (λ (i : ℕ). at p m (before i j)) k

      three : (x : ℕ) → x < inner → ◌≡◌ {A = List ℕ} (get_or row (margin + x - 1) 0 ∷ get_or row (margin + x) 0 ∷ get_or row (margin + x + 1) 0 ∷ [])
          (at p m (before (e + x) j) ∷ at p m (before (e + x + 1) j) ∷ at p m (before (e + x + 2) j) ∷ [])
      three x h = cc (west x h, r.cells x h, east x h (dec_le inner (x + 1)))

    window-rows : (y : ℕ) (above mid below : List ℕ) → Row (before-row m y) inner above → Row (before-row m (y + 1)) inner mid
        → Row (before-row m (y + 2)) inner below → (x : ℕ) → x < inner → window_rows above mid below (margin + x) ≡ window_of p m (cell (e + x) y)
    window-rows y above mid below a b c x h = cc (three y above a x h, three (y + 1) mid b x h, three (y + 2) below c x h, window-is p m (e + x) y)

    -- ---- the edges

    -- nothing is made of a window of zeros
    leaf-zero : (lf : Leaf) (kd : Kind) → leaf lf kd ((0 ∷ 0 ∷ 0 ∷ []) ∷ (0 ∷ 0 ∷ 0 ∷ []) ∷ (0 ∷ 0 ∷ 0 ∷ []) ∷ []) ≡ 0
    leaf-zero v.Axis Diamond = refl
    leaf-zero v.Axis Square = refl
    leaf-zero v.Highest Diamond = refl
    leaf-zero v.Highest Square = refl

    -- a cell whose neighbours all have 0, as it has
    bare : (lf : Leaf) (x y : ℕ) → x < w → y < p.height → ((i j : ℕ) → x ≤ i → i ≤ x + 2 → y ≤ j → j ≤ y + 2 → at p m (before i j) ≡ 0)
        → get_or m (y * w + x) 0 ≡ leaf lf p.kind (window_of p m (cell x y))
    bare lf x y a b z =
        sym (on m (x + 1) (y + 1) x y (omega arith) (omega arith) a b) ∙ z (x + 1) (y + 1) (omega arith) (omega arith) (omega arith) (omega arith)
        ∙ sym (ap (leaf lf p.kind) (sym (window-is p m x y) ∙ cc
        (row y (omega arith) (omega arith), row (y + 1) (omega arith) (omega arith), row (y + 2) (omega arith) (omega arith))) ∙ leaf-zero lf
        p.kind)
      where
        row : (j : ℕ) → y ≤ j → j ≤ y + 2 → ◌≡◌ {A = List ℕ} (at p m (before x j) ∷ at p m (before (x + 1) j) ∷ at p m (before (x + 2) j) ∷ []) (0 ∷ 0 ∷ 0 ∷ [])
        row j g l = cc (z x j (omega arith) (omega arith) g l, z (x + 1) j (omega arith) (omega arith) g l, z (x + 2) j (omega arith) (omega arith) g l)

    module _ (lf : Leaf) (x y : ℕ) (a : x < w) (b : y < p.height) where
      abbrev Stays : Type 0
      Stays = get_or m (y * w + x) 0 ≡ leaf lf p.kind (window_of p m (cell x y))

      left-stays : x < e → Stays
      left-stays h = bare lf x y a b (λ i j c d f g. west-off m (e + 1) (clear (omega arith)) i j (omega arith))

      right-stays : w ≤ x + e → Stays
      right-stays h = bare lf x y a b (λ i j c d f g. east-off m (e + 1) (clear (omega arith)) i j (omega arith))

      top-stays : y < e → Stays
      top-stays h = bare lf x y a b (λ i j c d f g. north-off m (e + 1) (clear (omega arith)) i j (omega arith))

      bottom-stays : p.height ≤ y + e → Stays
      bottom-stays h = bare lf x y a b (λ i j c d f g. south-off m (e + 1) (clear (omega arith)) i j (omega arith))

    -- a plate that is edge alone
    pub filtered-narrow : (lf : Leaf) → w ≤ 2 * e → Mapped p (λ c. leaf lf p.kind (window_of p m c)) m m
    filtered-narrow lf h = record { same = refl; holds = λ x y a b. go x y a b (dec_le e x); surplus = λ n l. refl }
      where
        go : (x y : ℕ) → x < w → y < p.height → Dec (e ≤ x) → get_or m (y * w + x) 0 ≡ leaf lf p.kind (window_of p m (cell x y))
        go x y a b (yes l) = right-stays lf x y a b (omega arith)
        go x y a b (no l) = left-stays lf x y a b (omega arith)

    pub filtered-low : (lf : Leaf) → p.height ≤ 2 * e → Mapped p (λ c. leaf lf p.kind (window_of p m c)) m m
    filtered-low lf h = record { same = refl; holds = λ x y a b. go x y a b (dec_le e y); surplus = λ n l. refl }
      where
        go : (x y : ℕ) → x < w → y < p.height → Dec (e ≤ y) → get_or m (y * w + x) 0 ≡ leaf lf p.kind (window_of p m (cell x y))
        go x y a b (yes l) = bottom-stays lf x y a b (omega arith)
        go x y a b (no l) = top-stays lf x y a b (omega arith)

    -- ---- row after row

    -- a row read from what is not yet written is the map's own
    row-own : (y : ℕ) (map row : List ℕ) → 2 * e < w → ((x : ℕ) → x < inner → get_or map (y * w + e + x) 0 ≡ get_or m (y * w + e + x) 0)
        → Row (row_of p e map y) inner row → Row (before-row m (y + 1)) inner row
    row-own y map row wide s r = record { margins = r.margins; cells = λ x l. r.cells x l ∙ go x l (dec_le (suc (y + e)) p.height) }
      where
        go : (x : ℕ) → x < inner → Dec (suc (y + e) ≤ p.height) → row_of p e map y x ≡ before-row m (y + 1) x
        go x l (yes h) =
            let i : y * w + e + x ≡ y * w + (e + x) = omega arith in
            rw (lt-ltb _ _ h) (s x l ∙ ap (λ (n : ℕ). get_or m n 0) i ∙ sym
            (on m (e + x + 1) (y + 1) (e + x) y (omega arith) (omega arith) (omega arith) (omega arith)))
        go x l (no h) = let g : p.height ≤ y + e = omega arith in rw (le-ltb _ _ g) (sym (south-clear (e + x + 1) (y + 1) (omega arith)))

    pub done_none : (lf : Leaf) → 2 * e < p.height → DoneTo m lf e m
    done_none lf tall =
        record { from = omega arith; within = omega arith; same = refl; done = λ j x g h. absurd (omega arith); rest = λ n g. refl }

    pub filtered-none : (lf : Leaf) (mid : List ℕ) → 2 * e < w → 2 * e < p.height → Row (row_of p e m e) inner mid → FilteredTo m lf e zeros mid zeros m
    filtered-none lf mid wide tall r =
        record {
          to = done_none lf tall;
          above-is = record { margins = (row-zeros inner).margins; cells = λ x l. (row-zeros inner).cells x l ∙ sym (north-clear (e + x + 1) e (omega arith)) };
          mid-is = row-own e m mid wide (λ x l. refl) r;
          below-margins = (row-zeros inner).margins;
        }

    -- a place lies in one row, at one column
    apart : (y j x i : ℕ) → x < w → j < y → j * w + x < y * w + i
    apart y j x i a b = omega (arith, row_under w y x j a b)

    -- rows from y on are as they were
    pub rest-row : (lf : Leaf) (y : ℕ) (map : List ℕ) → 2 * e < w → DoneTo m lf y map → (j x : ℕ) → y ≤ j → get_or map (j * w + x) 0 ≡ get_or m (j * w + x) 0
    rest-row lf y map wide a j x g =
        a.rest (j * w + x) (λ t. let h = t.3 in let l = t.4 in omega (arith, apart j t.0 (e + t.1) x (omega arith) (omega arith), t.5))

    -- a row more
    pub done_more : (lf : Leaf) (y : ℕ) (map new : List ℕ) (f : ℕ → ℕ) → 2 * e < w → DoneTo m lf y map → y + e < p.height
        → Filled f (y * w + e) (y * w + e + inner) map new
        → ((x : ℕ) → x < inner → f (y * w + e + x) ≡ leaf lf p.kind (window_of p m (cell (e + x) y))) → DoneTo m lf (y + 1) new
    done_more lf y map new f wide a tall r s =
        record {
          from = omega (arith, a.from);
          within = omega arith;
          same = r.same ∙ a.same;
          done = λ j x g h l. go j x g h l (dec_le y j);
          rest = λ n g. out n g (dec_le (y * w + e) n) (dec_le (y * w + e + inner) n) ∙ a.rest n (λ t. g (t.0, t.1, t.2, omega (arith, t.3), t.4, t.5));
        }
      where
        go : (j x : ℕ) → e ≤ j → j < y + 1 → x < inner → Dec (y ≤ j) → get_or new (j * w + e + x) 0 ≡ leaf lf p.kind (window_of p m (cell (e + x) j))
        go j x g h l (no d) = r.under (j * w + e + x) (omega (arith, apart y j (e + x) e (omega arith) (omega arith))) ∙ a.done j x g (omega arith) l
        go j x g h l (yes d) =
            let k : y ≡ j = omega arith in
            subst (λ (j : ℕ). get_or new (j * w + e + x) 0 ≡ leaf lf p.kind (window_of p m (cell (e + x) j))) k
            (r.inside (y * w + e + x) (omega arith) (omega arith) ∙ s x l)

        out : (n : ℕ) → (Written m (y + 1) n → ⊥) → Dec (y * w + e ≤ n) → Dec (y * w + e + inner ≤ n) → get_or new n 0 ≡ get_or map n 0
        out n g (no c) d = r.under n (omega arith)
        out n g (yes c) (yes d) = r.over n d
        out n g (yes c) (no d) = absurd (g (y, n - (y * w + e), a.from, omega arith, omega arith, omega arith))

    -- and the arrays change roles: the row above is read over next
    pub filtered-more : (lf : Leaf) (y : ℕ) (above mid below map below' new : List ℕ) → 2 * e < w → FilteredTo m lf y above mid below map
        → y + e < p.height → FilteredRow p lf e y above mid below' map new → FilteredTo m lf (y + 1) mid below' above new
    filtered-more lf y above mid below map below' new wide a tall r =
        record {
          to = done_more lf y map new _ wide a.to tall r.map_is windows;
          above-is = a.mid-is;
          mid-is = next;
          below-margins = a.above-is.margins;
        }
      where
        next : Row (before-row m (y + 1 + 1)) inner below'
        next =
            row-own (y + 1) map below' wide
            (λ x l. let i : (y + 1) * w + e + x ≡ (y + 1) * w + (e + x) = omega arith in
            ap (λ (n : ℕ). get_or map n 0) i ∙ rest-row lf y map wide a.to (y + 1) (e + x) (omega arith) ∙ ap (λ (n : ℕ). get_or m n 0) (sym i))
            r.below-is

        windows : (x : ℕ) → x < inner
            → leaf lf p.kind (window_rows above mid below' (margin + (y * w + e + x - (y * w + e)))) ≡ leaf lf p.kind (window_of p m (cell (e + x) y))
        windows x l =
            let i : y * w + e + x - (y * w + e) ≡ x = omega arith in
            let k : y + 1 + 1 ≡ y + 2 = omega arith in
            ap (λ (i : ℕ). leaf lf p.kind (window_rows above mid below' (margin + i))) i
            ∙ ap (leaf lf p.kind) (window-rows y above mid below' a.above-is a.mid-is
            (subst (λ (j : ℕ). Row (before-row m j) inner below') k next) x l)

    pub done_all : (lf : Leaf) (y : ℕ) (map : List ℕ) → 2 * e < w → DoneTo m lf y map → p.height ≤ y + e
        → Mapped p (λ c. leaf lf p.kind (window_of p m c)) m map
    done_all lf y map wide a h =
        record {
          same = a.same;
          holds = λ x j c d. go x j c d (dec_le e x) (dec_le w (x + e)) (dec_le e j) (dec_le p.height (j + e));
          surplus = λ n g. a.rest n (λ t. let l = t.3 in let k = t.4 in let u = a.within in
              omega (arith, apart p.height t.0 (e + t.1) 0 (omega arith) (omega arith), t.5));
        }
      where
        -- a cell of the edge is not written
        stays : (x j : ℕ) → x < w → ((i : ℕ) → e ≤ j → j < y → i < inner → x ≡ e + i → ⊥) → get_or map (j * w + x) 0 ≡ get_or m (j * w + x) 0
        stays x j c g = a.rest (j * w + x) (λ t. same-cell t.0 t.1 t.2 t.3 t.4 t.5 (dec_le (suc j) t.0) (dec_le (suc t.0) j))
          where
            same-cell : (k i : ℕ) → e ≤ k → k < y → i < inner → j * w + x ≡ k * w + e + i → Dec (suc j ≤ k) → Dec (suc k ≤ j) → ⊥
            same-cell k i l o q u (yes d) f = omega (arith, apart k j x (e + i) c d)
            same-cell k i l o q u (no d) (yes f) = omega (arith, apart j k (e + i) x (omega arith) f)
            same-cell k i l o q u (no d) (no f) =
                let z : j ≡ k = omega arith in
                g i (omega arith) (omega arith) q (omega (arith, ap (λ (n : ℕ). n * w) z))

        go : (x j : ℕ) → x < w → j < p.height → Dec (e ≤ x) → Dec (w ≤ x + e) → Dec (e ≤ j) → Dec (p.height ≤ j + e)
            → get_or map (j * w + x) 0 ≡ leaf lf p.kind (window_of p m (cell x j))
        go x j c d (no f) g k l = stays x j c (λ i q o s u. omega arith) ∙ left-stays lf x j c d (omega arith)
        go x j c d (yes f) (yes g) k l = stays x j c (λ i q o s u. omega arith) ∙ right-stays lf x j c d g
        go x j c d (yes f) (no g) (no k) l = stays x j c (λ i q o s u. omega arith) ∙ top-stays lf x j c d (omega arith)
        go x j c d (yes f) (no g) (yes k) (yes l) = stays x j c (λ i q o s u. let z = a.within in omega arith) ∙ bottom-stays lf x j c d l
        go x j c d (yes f) (no g) (yes k) (no l) =
            let i : e + (x - e) ≡ x = omega arith in
            let n : j * w + x ≡ j * w + e + (x - e) = omega arith in
            ap (λ (n : ℕ). get_or map n 0) n ∙ a.done j (x - e) k (omega arith) (omega arith) ∙ ap (λ (i : ℕ). leaf lf p.kind (window_of p m (cell i j))) i

-- a pass for the highest leaves the highest among each cell and its neighbours
pub highest-filtered : (p : Head) (old new : List ℕ) → Mapped p (λ c. leaf v.Highest p.kind (window_of p old c)) old new
    → Mapped p (highest_near p.kind (at p old)) old new
highest-filtered p old new m = record { same = m.same; holds = λ x y a b. m.holds x y a b ∙ window-max-near p old (cell x y); surplus = m.surplus }

-- a pass for the highest is a pass for what is made, where that is the highest
pub highest-made : (p : Head) (lf : Leaf) (old new : List ℕ) → lf ≡ v.Highest → Mapped p (λ c. leaf v.Highest p.kind (window_of p old c)) old new
    → Mapped p (λ c. leaf lf p.kind (window_of p old c)) old new
highest-made p lf old new e h = subst (λ (l : Leaf). Mapped p (λ c. leaf l p.kind (window_of p old c)) old new) (sym e) h
