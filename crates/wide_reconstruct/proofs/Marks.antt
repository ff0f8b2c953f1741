-- Laws of marks: what one row's marks add to a map's, what holds after some rows and after all, and that all marks together are the
-- reconstruction.
use mathlib.Core.Path.{◌≡◌, refl, sym, ap, ◌∙◌, subst}
use mathlib.Core.Logic.{◌⊎◌, inl, inr}
use mathlib.Core.List.{List, ◌++◌}
use Prim.Native.Nat.{ℕ, suc, ◌+◌, ◌*◌, ◌-◌, ◌≤◌, ◌<◌, max}
use native.Mathlib.Omega.{arith}
use native.Mathlib.Decide.{dec_le}
use borrow.Author.Tests.{lt-ltb, le-ltb}
use lib.IntN.{pos}
use lib.ListN.{length, get_or, drop}
use Rattle.geometry.specs.declared.Kind.{Kind}
use Rattle.geometry.specs.declared.Head.{Head}
use Rattle.geometry.specs.Plane.{cell, gap, dist}
use Rattle.geometry.specs.Plate.{area, tabulated}
use Rattle.theory.specs.Levels.{reconstructed}
use Rattle.theory.proofs.Plate.{at-cell}
use Rattle.buffers.specs.Fill.{Filled, PlateOnly}
use Rattle.buffers.proofs.Fill.{row_under, mapped-bytes}
use Rattle.buffers.proofs.Rooms.{row_room, cell_room}
use Rattle.row_arrays.specs.Rows.{margin, Margins, Row, Widened, joined_row, with_columns}
use Rattle.row_arrays.specs.Asked.{Held}
use Rattle.row_arrays.proofs.Rows.{zeros, row-zeros, margins-filled, line-start, copied}
use Rattle.wide_rows.specs.Wide.{wide_numbers, wide_reach}
use Rattle.wide_rows.proofs.Wide.{wide_fits}
use Rattle.distance_transform.specs.Transform.{Propagated, RowPropagated}
use Rattle.distance_transform.proofs.Join.{Joins, line-propagated, down-joins, joined-array}
use Rattle.distance_transform.proofs.Finish.{start-numbers, numbers-reconstructed}
use Rattle.wide_reconstruct.specs.Marks.{marked, own, RowMarked, Marks, MarkedDown, MarkedUp}

-- ---- one row

module _ (p : Head) (m : List ℕ) (y : ℕ) (here : y < p.height) (held : Held p) where
  -- a row's numbers, loaded and propagated along it
  row-along : (row row' spare' : List ℕ) → Row (λ x. get_or (wide_numbers m) (y * p.width + x) 0) p.width row
      → Widened p.width 1 wide_reach row row' spare' → RowPropagated p.kind p.width (λ b. b ≡ y) (own p m) y row'
  row-along row row' spare' r l =
      line-propagated p.kind p.width wide_reach (own p m) y row' (omega (arith, held.narrow, wide_fits.reached))
      (l.line (λ x. own p m x y) (line-start (λ x. own p m x y) p.width row (record { margins = r.margins; cells = cells })))
    where
      cells : (x : ℕ) → x < p.width → get_or row (margin + x) 0 ≡ own p m x y
      cells x h = r.cells x h ∙ sym (at-cell p (wide_numbers m) x y h here) ∙ sym (start-numbers p (wide_numbers m) x y)

  pub row-marked : (row₁ row₂ row' spare' beside beside' out out' : List ℕ) → Margins p.width beside
      → Row (λ x. get_or (wide_numbers m) (y * p.width + x) 0) p.width row₁ → Widened p.width 1 wide_reach row₁ row₂ spare'
      → Filled (joined_row p.kind beside row₂) margin (margin + p.width) row₂ row'
      → Filled (λ n. marked (get_or row' (margin + (n - y * p.width)) 0) (get_or out n 0)) (y * p.width) (y * p.width + p.width) out out'
      → beside' ≡ with_columns p.width row' beside → RowMarked p m y row' spare' beside beside' out out'
  row-marked row₁ row₂ row' spare' beside beside' out out' b r l j k c =
      record {
        along = row₂;
        along-is = row-along row₁ row₂ spare' r l;
        row_is = j;
        spare-margins = l.spare-margins;
        beside-is = copied p.width row' beside beside' held.narrow (margins-filled _ p.width row₂ row' l.row-margins j) b c;
        marks = k;
      }

-- ---- two sets of rows together

marked-both : (u v : ℕ) → marked u (marked v 0) ≡ marked (max v u) 0
marked-both u v = go (dec_le 1 u) (dec_le 1 v)
  where
    go : Dec (1 ≤ u) → Dec (1 ≤ v) → marked u (marked v 0) ≡ marked (max v u) 0
    go (yes a) b = let c : 0 < max v u = omega arith in rw (lt-ltb 0 u a, lt-ltb 0 (max v u) c)
    go (no a) (yes b) = let d : u ≤ 0 = omega arith in let c : 0 < max v u = omega arith in rw (le-ltb 0 u d, lt-ltb 0 v b, lt-ltb 0 (max v u) c)
    go (no a) (no b) =
        let d : u ≤ 0 = omega arith in
        let e : v ≤ 0 = omega arith in
        let c : max v u ≤ 0 = omega arith in
        rw (le-ltb 0 u d, le-ltb 0 v e, le-ltb 0 (max v u) c)

-- rows of one set, of another, and of both
record Together (A B C : ℕ → Type 0) : Type 0 where
  first-in : (b : ℕ) → A b → C b
  second-in : (b : ℕ) → B b → C b
  split : (b : ℕ) → C b → A b ⊎ B b

module _ (kd : Kind) (w : ℕ) (A B C : ℕ → Type 0) (t : Together A B C) (q : ℕ → ℕ → ℕ) where
  abbrev Met : ℕ → ℕ → ℕ → (ℕ → Type 0) → Type 0
  Met x y n Among = (n ≡ 0) ⊎ ((a : ℕ) × (b : ℕ) × (a < w) × Among b × (n + dist kd (cell x y) (cell a b) ≤ q a b))

  -- the higher of two numbers is propagated over both
  propagated-both : (x y u v : ℕ) → Propagated kd w A q x y v → Propagated kd w B q x y u → Propagated kd w C q x y (max v u)
  propagated-both x y u v f g = record { bound = λ a b h c. bound a b h (t.split b c); met = met (dec_le u v) f.met g.met }
    where
      bound : (a b : ℕ) → a < w → A b ⊎ B b → q a b ≤ max v u + dist kd (cell x y) (cell a b)
      bound a b h (inl i) = omega (arith, f.bound a b h i)
      bound a b h (inr i) = omega (arith, g.bound a b h i)

      met : Dec (u ≤ v) → Met x y v A → Met x y u B → Met x y (max v u) C
      met (yes h) (inl z) l = inl (omega arith)
      met (yes h) (inr (a, b, i, k, e)) l = inr (a, b, i, t.first-in b k, omega arith)
      met (no h) k (inl z) = inl (omega arith)
      met (no h) k (inr (a, b, i, l, e)) = inr (a, b, i, t.second-in b l, omega arith)

  -- a row's marks, and those of a row of numbers
  marks-both : (y : ℕ) (row out out' : List ℕ) → RowPropagated kd w B q y row
      → Filled (λ n. marked (get_or row (margin + (n - y * w)) 0) (get_or out n 0)) (y * w) (y * w + w) out out' → Marks kd w A q y out → Marks kd w C q y out'
  marks-both y row out out' r h s x l = go (s x l)
    where
      u : ℕ
      u = get_or row (margin + x) 0

      go : (v : ℕ) × (get_or out (y * w + x) 0 ≡ marked v 0) × Propagated kd w A q x y v
          → (v : ℕ) × (get_or out' (y * w + x) 0 ≡ marked v 0) × Propagated kd w C q x y v
      go (v, e, f) =
          let k : y * w + x - y * w ≡ x = omega arith in (
            max v u,
            h.inside (y * w + x) (omega arith) (omega arith)
                ∙ ap (λ (i : ℕ). marked (get_or row (margin + i) 0) (get_or out (y * w + x) 0)) k
                ∙ ap (marked u) e
                ∙ marked-both u v,
            propagated-both x y u v f (r.cells x l),
          )

-- ---- some rows, and all

-- row y and those below it, from the row below
below-joins : (y h : ℕ) → y < h → Joins (λ b. b ≡ y) (λ b. (y + 1 ≤ b) × (b < h)) (λ b. (y ≤ b) × (b < h)) y (y + 1)
below-joins y h l =
    record {
      own_in = λ b e. (omega arith, omega arith);
      beside-in = λ b g. (omega (arith, g.0), g.1);
      adjacent = omega arith;
      split = λ b g. go b g (dec_le b y);
    }
  where
    go : (b : ℕ) → (y ≤ b) × (b < h) → Dec (b ≤ y)
        → (b ≡ y) ⊎ (((y + 1 ≤ b) × (b < h)) × (gap (pos y) (pos b) ≡ suc (gap (pos (y + 1)) (pos b))))
    go b g (yes k) = inl (omega (arith, g.0))
    go b g (no k) = inr ((omega arith, g.1), omega arith)

above-together : (y : ℕ) → Together (λ b. b < 0) (λ b. b < y + 1) (λ b. b < y + 1)
above-together y = record { first-in = λ b h. omega arith; second-in = λ b h. h; split = λ b h. inr h }

all-together : (y h : ℕ) → y < h → Together (λ b. b < y + 1) (λ b. (y ≤ b) × (b < h)) (λ b. b < h)
all-together y h l = record { first-in = λ b g. omega arith; second-in = λ b g. g.1; split = λ b g. go b g (dec_le y b) }
  where
    go : (b : ℕ) → b < h → Dec (y ≤ b) → (b < y + 1) ⊎ ((y ≤ b) × (b < h))
    go b g (yes k) = inr (k, g)
    go b g (no k) = inl (omega arith)

module _ (p : Head) (m : List ℕ) where
  abbrev w : ℕ
  w = p.width

  abbrev q : ℕ → ℕ → ℕ
  q = own p m

  -- row y of a buffer has the marks of the rows that Among has
  abbrev Has : (ℕ → Type 0) → ℕ → List ℕ → Type 0
  Has Among y out = Marks p.kind w Among q y out

  -- where the bytes of a row are the same, so are its marks
  marks-same : (Among : ℕ → Type 0) (y : ℕ) (old new : List ℕ) → ((x : ℕ) → x < w → get_or new (y * w + x) 0 ≡ get_or old (y * w + x) 0) → Has Among y old
      → Has Among y new
  marks-same Among y old new e s x l = let f = s x l in (f.0, e x l ∙ f.1, f.2)

  -- marks are of a row alone
  marks-other : (Among : ℕ → Type 0) (f : ℕ → ℕ) (y j : ℕ) (old new : List ℕ) → Filled f (y * w) (y * w + w) old new → (j < y) ⊎ (y < j) → Has Among j old
      → Has Among j new
  marks-other Among f y j old new h (inl g) = marks-same Among j old new (λ x l. h.under (j * w + x) (row_under w y x j l g))
  marks-other Among f y j old new h (inr g) =
      marks-same Among j old new (λ x l. h.over (j * w + x) (omega (arith, row_room w y j (j * w) g (omega arith))))

  kept_more : (f : ℕ → ℕ) (y : ℕ) (old mid new : List ℕ) → y < p.height → PlateOnly p old mid → Filled f (y * w) (y * w + w) mid new → PlateOnly p old new
  kept_more f y old mid new l k h = record { same = h.same ∙ k.same; surplus = λ n g. h.over n (row_room w y p.height n l g) ∙ k.surplus n g }

  -- no numbers: an array of zeros, where there are no rows
  zeros-propagated : (Among : ℕ → Type 0) (y : ℕ) → ((b : ℕ) → Among b → ⊥) → RowPropagated p.kind w Among q y zeros
  zeros-propagated Among y none =
      record { margins = (row-zeros w).margins; cells = λ x l. record { bound = λ a b h g. absurd (none b g); met = inl ((row-zeros w).cells x l) } }

  pub blank-marks : (old new : List ℕ) → Filled (λ n. 0) 0 (area p) old new → (y : ℕ) → y < p.height → Has (λ b. b < 0) y new
  blank-marks old new h y l x g = (
    0,
    h.inside (y * w + x) (omega arith) (cell_room w x y p.height (area p) g l (omega arith)),
    record { bound = λ a b i k. absurd (omega arith); met = inl refl },
  )

  row-margins : (y : ℕ) (row spare beside beside' out out' : List ℕ) → RowMarked p m y row spare beside beside' out out' → Margins w row
  row-margins y row spare beside beside' out out' r = margins-filled (joined_row p.kind beside r.along) w r.along row r.along-is.margins r.row_is

  -- rows above y are marked, the last of them stands in the array
  pub record DownTo (y : ℕ) (old row spare above out : List ℕ) : Type 0 where
    pub within : y ≤ p.height
    pub kept : PlateOnly p old out
    pub row-margins : Margins w row
    pub spare-margins : Margins w spare
    pub array : RowPropagated p.kind w (λ b. b < y) q (y - 1) above
    pub rest : (n : ℕ) → y * w ≤ n → get_or out n 0 ≡ get_or old n 0
    pub done : ((j : ℕ) → j < p.height → Has (λ b. b < 0) j old) → (j : ℕ) → j < y → Has (λ b. b < j + 1) j out

  pub down-none : (out : List ℕ) → DownTo 0 out zeros zeros zeros out
  down-none out =
      record {
        within = omega arith;
        kept = record { same = refl; surplus = λ n h. refl };
        row-margins = (row-zeros w).margins;
        spare-margins = (row-zeros w).margins;
        array = zeros-propagated (λ b. b < 0) 0 (λ b h. omega arith);
        rest = λ n h. refl;
        done = λ s j h. absurd (omega arith);
      }

  pub down-more : (y : ℕ) (old row spare above mid row' spare' above' new : List ℕ) → DownTo y old row spare above mid → y < p.height
      → RowMarked p m y row' spare' above above' mid new → DownTo (y + 1) old row' spare' above' new
  down-more y old row spare above mid row' spare' above' new d h r =
      record {
        within = omega arith;
        kept = kept_more _ y old mid new h d.kept r.marks;
        row-margins = row-margins y row' spare' above above' mid new r;
        spare-margins = r.spare-margins;
        array = let e : y ≡ y + 1 - 1 = omega arith in
            subst (λ (j : ℕ). RowPropagated p.kind w (λ b. b < y + 1) q j above') e
            (subst (RowPropagated p.kind w (λ b. b < y + 1) q y) (sym r.beside-is) joined);
        rest = λ n g. let past : y * w + w ≤ n = row_room w y (y + 1) n (omega arith) g in r.marks.over n past ∙ d.rest n (omega (arith, past));
        done = λ s j g. go s j g (dec_le y j);
      }
    where
      joined : RowPropagated p.kind w (λ b. b < y + 1) q y row'
      joined = joined-array p.kind w (λ b. b ≡ y) (λ b. b < y) (λ b. b < y + 1) q y (y - 1) (down-joins y) r.along above r.along-is d.array row'
          r.row_is

      go : ((j : ℕ) → j < p.height → Has (λ b. b < 0) j old) → (j : ℕ) → j < y + 1 → Dec (y ≤ j) → Has (λ b. b < j + 1) j new
      go s j g (yes k) = let e : y ≡ j = omega arith in
          subst (λ (i : ℕ). Has (λ b. b < i + 1) i new) e
          (marks-both p.kind w (λ b. b < 0) (λ b. b < y + 1) (λ b. b < y + 1) (above-together y) q y row' mid new joined r.marks
          (marks-same (λ b. b < 0) y old mid (λ x l. d.rest (y * w + x) (omega arith)) (s y h)))
      go s j g (no k) = marks-other (λ b. b < j + 1) _ y j mid new r.marks (inl (omega arith)) (d.done s j (omega arith))

  pub down-all : (y : ℕ) (old row spare above out : List ℕ) → DownTo y old row spare above out → p.height ≤ y → MarkedDown p q old out
  down-all y old row spare above out d h = record { kept = d.kept; rows = λ s j g. d.done s j (omega arith) }

  -- rows from y on are marked, row y stands in the array, those above are as they were
  pub record UpTo (y : ℕ) (old row spare below out : List ℕ) : Type 0 where
    pub within : y ≤ p.height
    pub kept : PlateOnly p old out
    pub row-margins : Margins w row
    pub spare-margins : Margins w spare
    pub array : RowPropagated p.kind w (λ b. (y ≤ b) × (b < p.height)) q y below
    pub rest : (n : ℕ) → n < y * w → get_or out n 0 ≡ get_or old n 0
    pub done : ((j : ℕ) → j < p.height → Has (λ b. b < j + 1) j old) → (j : ℕ) → y ≤ j → j < p.height → Has (λ b. b < p.height) j out

  pub up_none : (out : List ℕ) → UpTo p.height out zeros zeros zeros out
  up_none out =
      record {
        within = omega arith;
        kept = record { same = refl; surplus = λ n h. refl };
        row-margins = (row-zeros w).margins;
        spare-margins = (row-zeros w).margins;
        array = zeros-propagated (λ b. (p.height ≤ b) × (b < p.height)) p.height (λ b h. omega (arith, h.0, h.1));
        rest = λ n h. refl;
        done = λ s j h l. absurd (omega arith);
      }

  pub up_more : (y z : ℕ) (old row spare below mid row' spare' below' new : List ℕ) → z + 1 ≡ y → UpTo y old row spare below mid
      → RowMarked p m z row' spare' below below' mid new → UpTo z old row' spare' below' new
  up_more y z old row spare below mid row' spare' below' new e d r =
      record {
        within = omega (arith, d.within);
        kept = kept_more _ z old mid new here d.kept r.marks;
        row-margins = row-margins z row' spare' below below' mid new r;
        spare-margins = r.spare-margins;
        array = subst (RowPropagated p.kind w (λ b. (z ≤ b) × (b < p.height)) q z) (sym r.beside-is) joined;
        rest = λ n g. r.marks.under n g ∙ d.rest n (omega (arith, row_room w z y (y * w) (omega arith) (omega arith)));
        done = λ s j g l. go s j g l (dec_le j z);
      }
    where
      here : z < p.height
      here = omega (arith, d.within)

      joined : RowPropagated p.kind w (λ b. (z ≤ b) × (b < p.height)) q z row'
      joined =
          joined-array p.kind w (λ b. b ≡ z) (λ b. (z + 1 ≤ b) × (b < p.height)) (λ b. (z ≤ b) × (b < p.height)) q z (z + 1)
          (below-joins z p.height here) r.along below r.along-is
          (subst (λ (i : ℕ). RowPropagated p.kind w (λ b. (i ≤ b) × (b < p.height)) q i below) (sym e) d.array) row' r.row_is

      go : ((j : ℕ) → j < p.height → Has (λ b. b < j + 1) j old) → (j : ℕ) → z ≤ j → j < p.height → Dec (j ≤ z) → Has (λ b. b < p.height) j new
      go s j g l (yes k) = let i : z ≡ j = omega arith in
          subst (λ (i : ℕ). Has (λ b. b < p.height) i new) i
          (marks-both p.kind w (λ b. b < z + 1) (λ b. (z ≤ b) × (b < p.height)) (λ b. b < p.height) (all-together z p.height here) q z row' mid new
          joined r.marks (marks-same (λ b. b < z + 1) z old mid (λ x k. d.rest (z * w + x) (row_under w y x z k (omega arith))) (s z here)))
      go s j g l (no k) = marks-other (λ b. b < p.height) _ z j mid new r.marks (inr (omega arith)) (d.done s j (omega arith) l)

  pub up-all : (y : ℕ) (old row spare below out : List ℕ) → UpTo y old row spare below out → y ≤ 0 → MarkedUp p q old out
  up-all y old row spare below out d h = record { kept = d.kept; rows = λ s j g. d.done s j (omega arith) g }

  -- ---- the end

  -- zeros, the way down and the way up
  pub marks-reconstructed : (old blank down up : List ℕ) → area p ≤ length old → Filled (λ n. 0) 0 (area p) old blank → MarkedDown p q blank down
      → MarkedUp p q down up → up ≡ tabulated p (reconstructed p (wide_numbers m)) ++ drop (length (tabulated p (reconstructed p (wide_numbers m)))) old
  marks-reconstructed old blank down up room b d u =
      mapped-bytes p (reconstructed p (wide_numbers m)) old up room
      (record {
        same = u.kept.same ∙ d.kept.same ∙ b.same;
        holds = λ x y h l. let s = whole y l x h in s.1 ∙ numbers-reconstructed p (wide_numbers m) x y s.0 s.2;
        surplus = λ n g. u.kept.surplus n g ∙ d.kept.surplus n g ∙ b.over n g;
      })
    where
      whole : (y : ℕ) → y < p.height → Has (λ b. b < p.height) y up
      whole = u.rows (d.rows (blank-marks old blank b))
