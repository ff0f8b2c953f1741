-- Laws of the two passes: what one row does to a map, and what holds after some rows and after all.
use mathlib.Core.Path.{◌≡◌, refl, sym, ◌∙◌, subst}
use mathlib.Core.Logic.{◌⊎◌, inl, inr}
use mathlib.Core.List.{List}
use Prim.Native.Nat.{ℕ, ◌+◌, ◌*◌, ◌-◌, ◌≤◌, ◌<◌}
use native.Mathlib.Omega.{arith}
use native.Mathlib.Decide.{dec_le}
use lib.ListN.{get_or}
use Rattle.geometry.specs.declared.Kind.{Kind}
use Rattle.geometry.specs.declared.Head.{Head}
use Rattle.buffers.specs.Fill.{PlateOnly}
use Rattle.buffers.proofs.Fill.{row_under}
use Rattle.row_arrays.specs.Rows.{Margins, Row, Widened, joined_row, Merged}
use Rattle.distance_transform.specs.Transform.{Propagated, RowPropagated, MapPropagated, RowOnly, RowDown, RowUp, Lowered, Down, Up}
use Rattle.row_arrays.proofs.Rows.{zeros, row-zeros, margins-filled, line-start}
use Rattle.buffers.proofs.Rooms.{row_room}
use Rattle.distance_transform.proofs.Join.{line-propagated, down-joins, up-joins, merged-array, merged-cells, merged-only}

-- ---- one row

-- a row of a map, in an array
row-propagated : (kd : Kind) (w : ℕ) (Among : ℕ → Type 0) (q : ℕ → ℕ → ℕ) (y : ℕ) (map row : List ℕ) → Row (λ x. get_or map (y * w + x) 0) w row
    → MapPropagated kd w Among q y map → RowPropagated kd w Among q y row
row-propagated kd w Among q y map row r s =
    record { margins = r.margins; cells = λ x l. subst (λ (v : ℕ). Propagated kd w Among q x y v) (sym (r.cells x l)) (s x l) }

module _ (p : Head) where
  abbrev w : ℕ
  w = p.width

  pub row-down : (reach : ℕ) (q : ℕ → ℕ → ℕ) (y : ℕ) (row₁ row₂ row₃ spare above above' out out' : List ℕ) → w ≤ reach → Row (λ x. q x y) w row₁
      → Widened w 1 reach row₁ row₂ spare → RowPropagated p.kind w (λ b. b < y) q (y - 1) above
      → Merged p.kind w (y * w) above above' row₂ row₃ out out' → RowDown p q y row₃ spare above' out out'
  row-down reach q y row₁ row₂ row₃ spare above above' out out' reached r l a h =
      record {
        kept = merged-only p.kind w y above above' row₂ row₃ out out' h;
        row-margins = margins-filled (joined_row p.kind above row₂) w row₂ row₃ l.row-margins h.row_is;
        spare-margins = l.spare-margins;
        array = merged-array p.kind w (λ b. b ≡ y) (λ b. b < y) (λ b. b < y + 1) q y (y - 1) (down-joins y) row₂ above own a above' row₃ out out' h;
        cells = merged-cells p.kind w (λ b. b ≡ y) (λ b. b < y) (λ b. b < y + 1) q y (y - 1) (down-joins y) row₂ above own a above' row₃ out out' h;
      }
    where
      own : RowPropagated p.kind w (λ b. b ≡ y) q y row₂
      own = line-propagated p.kind w reach q y row₂ reached (l.line (λ x. q x y) (line-start (λ x. q x y) w row₁ r))

  pub row_up : (y : ℕ) (row row' below below' out out' : List ℕ) → y < p.height → Row (λ x. get_or out (y * w + x) 0) w row
      → Merged p.kind w (y * w) below below' row row' out out' → RowUp p y row' below below' out out'
  row_up y row row' below below' out out' tall r h =
      record {
        kept = merged-only p.kind w y below below' row row' out out' h;
        row-margins = margins;
        below-margins = subst (Margins w) (sym h.beside-is) margins;
        array = λ q o b. merged-array p.kind w (λ b. b < y + 1) (λ b. b < p.height) (λ b. b < p.height) q y (y + 1)
            (up-joins y p.height tall) row below (own q o) b below' row' out out' h;
        cells = λ q o b. merged-cells p.kind w (λ b. b < y + 1) (λ b. b < p.height) (λ b. b < p.height) q y (y + 1)
            (up-joins y p.height tall) row below (own q o) b below' row' out out' h;
      }
    where
      margins : Margins w row'
      margins = margins-filled (joined_row p.kind below row) w row row' r.margins h.row_is

      own : (q : ℕ → ℕ → ℕ) → MapPropagated p.kind w (λ b. b < y + 1) q y out → RowPropagated p.kind w (λ b. b < y + 1) q y row
      own q o = row-propagated p.kind w (λ b. b < y + 1) q y out row r o

  -- ---- after some rows

  plate-none : (out : List ℕ) → PlateOnly p out out
  plate-none out = record { same = refl; surplus = λ n h. refl }

  plate-more : (y : ℕ) (old mid new : List ℕ) → y < p.height → PlateOnly p old mid → RowOnly w y mid new → PlateOnly p old new
  plate-more y old mid new h k o = record { same = o.same ∙ k.same; surplus = λ n g. o.over n (row_room w y p.height n h g) ∙ k.surplus n g }

  -- a row that was not written is as it was
  other_row : (Among : ℕ → Type 0) (q : ℕ → ℕ → ℕ) (y j : ℕ) (mid new : List ℕ) → RowOnly w y mid new → (j < y) ⊎ (y < j)
      → MapPropagated p.kind w Among q j mid → MapPropagated p.kind w Among q j new
  other_row Among q y j mid new o d s x l = subst (λ (v : ℕ). Propagated p.kind w Among q x j v) (sym (go d)) (s x l)
    where
      go : (j < y) ⊎ (y < j) → get_or new (j * w + x) 0 ≡ get_or mid (j * w + x) 0
      go (inl g) = o.under (j * w + x) (row_under w y x j l g)
      go (inr g) = o.over (j * w + x) (omega (arith, row_room w y j (j * w) g (omega arith)))

  -- rows below y are done, the last of them stands in the array
  pub record DownTo (q : ℕ → ℕ → ℕ) (y : ℕ) (old row spare above out : List ℕ) : Type 0 where
    pub within : y ≤ p.height
    pub kept : PlateOnly p old out
    pub row-margins : Margins w row
    pub spare-margins : Margins w spare
    pub array : RowPropagated p.kind w (λ b. b < y) q (y - 1) above
    pub rows : (j : ℕ) → j < y → MapPropagated p.kind w (λ b. b < j + 1) q j out

  pub down-none : (q : ℕ → ℕ → ℕ) (out : List ℕ) → DownTo q 0 out zeros zeros zeros out
  down-none q out =
      record {
        within = omega arith;
        kept = plate-none out;
        row-margins = (row-zeros w).margins;
        spare-margins = (row-zeros w).margins;
        array = record {
          margins = (row-zeros w).margins;
          cells =
              λ x l. record { bound = λ a b h g. absurd (omega arith); met = inl ((row-zeros w).cells x l) };
        };
        rows = λ j h. absurd (omega arith);
      }

  pub down-more : (q : ℕ → ℕ → ℕ) (y : ℕ) (old row spare above mid row' spare' above' new : List ℕ) → DownTo q y old row spare above mid
      → y < p.height → RowDown p q y row' spare' above' mid new → DownTo q (y + 1) old row' spare' above' new
  down-more q y old row spare above mid row' spare' above' new d h r =
      record {
        within = omega arith;
        kept = plate-more y old mid new h d.kept r.kept;
        row-margins = r.row-margins;
        spare-margins = r.spare-margins;
        array = let e : y ≡ y + 1 - 1 = omega arith in subst (λ (j : ℕ). RowPropagated p.kind w (λ b. b < y + 1) q j above') e r.array;
        rows = λ j g. go j g (dec_le y j);
      }
    where
      go : (j : ℕ) → j < y + 1 → Dec (y ≤ j) → MapPropagated p.kind w (λ b. b < j + 1) q j new
      go j g (yes k) = let e : y ≡ j = omega arith in subst (λ (i : ℕ). MapPropagated p.kind w (λ b. b < i + 1) q i new) e r.cells
      go j g (no k) = other_row (λ b. b < j + 1) q y j mid new r.kept (inl (omega arith)) (d.rows j (omega arith))

  pub down-all : (q : ℕ → ℕ → ℕ) (y : ℕ) (old row spare above out : List ℕ) → DownTo q y old row spare above out → p.height ≤ y → Down p q old out
  down-all q y old row spare above out d h = record { kept = d.kept; rows = λ j g. d.rows j (omega arith) }

  -- rows from y on are done, row y stands in the array, those above are as they were
  pub record UpTo (y : ℕ) (old row below out : List ℕ) : Type 0 where
    pub within : y < p.height
    pub kept : PlateOnly p old out
    pub row-margins : Margins w row
    pub below-margins : Margins w below
    pub under : (n : ℕ) → n < y * w → get_or out n 0 ≡ get_or old n 0
    pub array : (q : ℕ → ℕ → ℕ) → Lowered p q old → RowPropagated p.kind w (λ b. b < p.height) q y below
    pub rows : (q : ℕ → ℕ → ℕ) → Lowered p q old → (j : ℕ) → y ≤ j → j < p.height → MapPropagated p.kind w (λ b. b < p.height) q j out

  pub up_none : (below out : List ℕ) → 1 ≤ p.height → Row (λ x. get_or out ((p.height - 1) * w + x) 0) w below → UpTo (p.height - 1) out zeros below out
  up_none below out tall r =
      record {
        within = omega arith;
        kept = plate-none out;
        row-margins = (row-zeros w).margins;
        below-margins = r.margins;
        under = λ n l. refl;
        array = λ q s. row-propagated p.kind w (λ b. b < p.height) q (p.height - 1) out below r (last q s);
        rows = λ q s j g l. let e : p.height - 1 ≡ j = omega arith in subst (λ (i : ℕ). MapPropagated p.kind w (λ b. b < p.height) q i out) e (last q s);
      }
    where
      last : (q : ℕ → ℕ → ℕ) → Lowered p q out → MapPropagated p.kind w (λ b. b < p.height) q (p.height - 1) out
      last q s = let e : p.height - 1 + 1 ≡ p.height = omega arith in
          subst (λ (i : ℕ). MapPropagated p.kind w (λ b. b < i) q (p.height - 1) out) e (s (p.height - 1) (omega arith))

  pub up_more : (y z : ℕ) (old row below mid row' below' new : List ℕ) → z + 1 ≡ y → UpTo y old row below mid → RowUp p z row' below below' mid new
      → UpTo z old row' below' new
  up_more y z old row below mid row' below' new e d r =
      record {
        within = omega (arith, d.within);
        kept = plate-more z old mid new (omega (arith, d.within)) d.kept r.kept;
        row-margins = r.row-margins;
        below-margins = r.below-margins;
        under = λ n l. r.kept.under n l ∙ d.under n (omega (arith, row_room w z y (y * w) (omega arith) (omega arith)));
        array = λ q s. r.array q (own q s) (next q s);
        rows = λ q s j g l. go q s j l g (dec_le j z);
      }
    where
      own : (q : ℕ → ℕ → ℕ) → Lowered p q old → MapPropagated p.kind w (λ b. b < z + 1) q z mid
      own q s x l =
          subst (λ (v : ℕ). Propagated p.kind w (λ b. b < z + 1) q x z v) (sym (d.under (z * w + x) (row_under w y x z l (omega arith))))
          (s z (omega (arith, d.within)) x l)

      next : (q : ℕ → ℕ → ℕ) → Lowered p q old → RowPropagated p.kind w (λ b. b < p.height) q (z + 1) below
      next q s = subst (λ (i : ℕ). RowPropagated p.kind w (λ b. b < p.height) q i below) (sym e) (d.array q s)

      go : (q : ℕ → ℕ → ℕ) → Lowered p q old → (j : ℕ) → j < p.height → z ≤ j → Dec (j ≤ z) → MapPropagated p.kind w (λ b. b < p.height) q j new
      go q s j l g (yes k) = let i : z ≡ j = omega arith in
          subst (λ (i : ℕ). MapPropagated p.kind w (λ b. b < p.height) q i new) i (r.cells q (own q s) (next q s))
      go q s j l g (no k) = other_row (λ b. b < p.height) q z j mid new r.kept (inr (omega arith)) (d.rows q s j (omega arith) l)

  pub up-all : (y : ℕ) (old row below out : List ℕ) → UpTo y old row below out → y ≤ 0 → Up p old out
  up-all y old row below out d h = record { kept = d.kept; rows = λ q s j g. d.rows q s j (omega arith) g }
