-- Laws of the passes: a row propagated along itself, and the step from the row beside, which is one nearer to every cell beyond it.
use mathlib.Core.Path.{◌≡◌, refl, sym, ap, ◌∙◌, subst}
use mathlib.Core.Logic.{◌⊎◌, inl, inr}
use mathlib.Core.List.{List}
use Prim.Native.Nat.{ℕ, suc, ◌+◌, ◌*◌, ◌-◌, ◌≤◌, ◌<◌, max}
use native.Mathlib.Omega.{arith}
use native.Mathlib.Decide.{dec_le}
use lib.IntN.{pos}
use lib.ListN.{get_or}
use Rattle.geometry.specs.declared.Kind.{Kind}
use Rattle.geometry.specs.declared.Kind.TheVariants.{Diamond, Square}
use Rattle.geometry.specs.Plane.{cell, gap, dist}
use Rattle.theory.proofs.Distance.{dist-tri}
use Rattle.buffers.specs.Fill.{Filled}
use Rattle.row_arrays.specs.Rows.{margin, Margins, Line, highest_beside, joined_row, Merged}
use Rattle.distance_transform.specs.Transform.{Propagated, RowPropagated, MapPropagated, RowOnly}
use Rattle.row_arrays.proofs.Rows.{margins-filled}

-- ---- along a row

pub dist-along : (kd : Kind) (x a y : ℕ) → dist kd (cell x y) (cell a y) ≡ gap (pos x) (pos a)
dist-along Diamond x a y = omega arith
dist-along Square x a y = omega arith

-- steps along a row that reach past every column
pub line-propagated : (kd : Kind) (w reach : ℕ) (q : ℕ → ℕ → ℕ) (y : ℕ) (row : List ℕ) → w ≤ reach → Line (λ a. q a y) w reach row
    → RowPropagated kd w (λ b. b ≡ y) q y row
line-propagated kd w reach q y row reached l = record { margins = l.margins; cells = λ x h. record { bound = bound x h; met = met x (l.met x h) } }
  where
    bound : (x : ℕ) → x < w → (a b : ℕ) → a < w → b ≡ y → q a b ≤ get_or row (margin + x) 0 + dist kd (cell x y) (cell a b)
    bound x h a b g e = subst (λ (j : ℕ). q a j ≤ get_or row (margin + x) 0 + dist kd (cell x y) (cell a j)) (sym e)
        (omega (arith, dist-along kd x a y, l.bound x a h g (omega (arith, reached))))

    met : (x : ℕ) → (get_or row (margin + x) 0 ≡ 0) ⊎ ((a : ℕ) × (a < w) × (get_or row (margin + x) 0 + gap (pos x) (pos a) ≤ q a y))
        → (get_or row (margin + x) 0 ≡ 0) ⊎ ((a : ℕ) × (b : ℕ) × (a < w) × (b ≡ y) × (get_or row (margin + x) 0 + dist kd (cell x y) (cell a b) ≤ q a b))
    met x (inl e) = inl e
    met x (inr (a, h, g)) = inr (a, y, h, refl, omega (arith, dist-along kd x a y))

-- ---- from the row beside

-- rows of own numbers, of the row beside, and of both; row z, beside y, is one nearer to those that only it has
pub record Joins (Own Beside Both : ℕ → Type 0) (y z : ℕ) : Type 0 where
  pub own_in : (b : ℕ) → Own b → Both b
  pub beside-in : (b : ℕ) → Beside b → Both b
  pub adjacent : gap (pos y) (pos z) ≤ 1
  pub split : (b : ℕ) → Both b → Own b ⊎ (Beside b × (gap (pos y) (pos b) ≡ suc (gap (pos z) (pos b))))

pub down-joins : (y : ℕ) → Joins (λ b. b ≡ y) (λ b. b < y) (λ b. b < y + 1) y (y - 1)
down-joins y = record { own_in = λ b h. omega arith; beside-in = λ b h. omega arith; adjacent = omega arith; split = λ b h. go b h (dec_le y b) }
  where
    go : (b : ℕ) → b < y + 1 → Dec (y ≤ b) → (b ≡ y) ⊎ ((b < y) × (gap (pos y) (pos b) ≡ suc (gap (pos (y - 1)) (pos b))))
    go b h (yes g) = inl (omega arith)
    go b h (no g) = inr (omega arith, omega arith)

pub up-joins : (y h : ℕ) → y < h → Joins (λ b. b < y + 1) (λ b. b < h) (λ b. b < h) y (y + 1)
up-joins y h l = record { own_in = λ b g. omega arith; beside-in = λ b g. g; adjacent = omega arith; split = λ b g. go b g (dec_le b y) }
  where
    go : (b : ℕ) → b < h → Dec (b ≤ y) → (b < y + 1) ⊎ ((b < h) × (gap (pos y) (pos b) ≡ suc (gap (pos (y + 1)) (pos b))))
    go b g (yes k) = inl (omega arith)
    go b g (no k) = inr (g, omega arith)

both-less : (g g' k k' : ℕ) → g' ≤ g - 1 → k ≡ suc k' → suc (max g' k') ≤ max g k
both-less g g' k k' h e = omega arith

module _ (w : ℕ) (beside : List ℕ) (m : Margins w beside) (x y z : ℕ) (left : x < w) where
  -- a column of the row beside, at most one step away, that is one nearer to a cell
  record Nearer (kd : Kind) (a b : ℕ) : Type 0 where
    column : ℕ
    inside : column < w
    low : get_or beside (margin + column) 0 ≤ highest_beside kd beside (margin + x)
    nearer : suc (dist kd (cell column z) (cell a b)) ≤ dist kd (cell x y) (cell a b)

  same_place : (i j : ℕ) → i ≡ j → get_or beside i 0 ≡ get_or beside j 0
  same_place i j e = ap (λ (k : ℕ). get_or beside k 0) e

  nearer-one : (kd : Kind) (a b : ℕ) → a < w → gap (pos y) (pos b) ≡ suc (gap (pos z) (pos b)) → Nearer kd a b
  nearer-one Diamond a b h e = record { column = x; inside = left; low = omega arith; nearer = omega arith }
  nearer-one Square a b h e = go (dec_le (suc x) a) (dec_le (suc a) x)
    where
      by-gap : (n : ℕ) → gap (pos n) (pos a) ≤ gap (pos x) (pos a) - 1 → suc (dist Square (cell n z) (cell a b)) ≤ dist Square (cell x y) (cell a b)
      by-gap n g = both-less (gap (pos x) (pos a)) (gap (pos n) (pos a)) (gap (pos y) (pos b)) (gap (pos z) (pos b)) g e

      go : Dec (suc x ≤ a) → Dec (suc a ≤ x) → Nearer Square a b
      go (yes d) f = record {
        column = x + 1;
        inside = omega arith;
        low =
            omega (arith, same_place (margin + (x + 1)) (margin + x + 1) (omega arith));
        nearer = by-gap (x + 1) (omega arith);
      }
      go (no d) (yes f) = record {
        column = x - 1;
        inside = omega arith;
        low =
            omega (arith, same_place (margin + (x - 1)) (margin + x - 1) (omega arith));
        nearer = by-gap (x - 1) (omega arith);
      }
      go (no d) (no f) = record { column = x; inside = left; low = omega arith; nearer = by-gap x (omega arith) }

  -- the column that has the highest number, unless that is 0
  record Source (kd : Kind) : Type 0 where
    column : ℕ
    inside : column < w
    is : get_or beside (margin + column) 0 ≡ highest_beside kd beside (margin + x)
    step : dist kd (cell x y) (cell column z) ≤ 1

  source : (kd : Kind) → gap (pos y) (pos z) ≤ 1 → 1 ≤ highest_beside kd beside (margin + x) → Source kd
  source Diamond g h = record { column = x; inside = left; is = refl; step = omega arith }
  source Square g h = go (dec_le (highest_beside Square beside (margin + x)) (get_or beside (margin + x) 0))
      (dec_le (highest_beside Square beside (margin + x)) (get_or beside (margin + x - 1) 0))
    where
      back : highest_beside Square beside (margin + x) ≡ get_or beside (margin + x - 1) 0 → Dec (1 ≤ x) → Source Square
      back e (yes d) = record {
        column = x - 1;
        inside = omega arith;
        is = same_place (margin + (x - 1)) (margin + x - 1) (omega arith) ∙ sym e;
        step = omega arith;
      }
      back e (no d) = absurd (omega (arith, m.under (margin + x - 1) (omega arith)))

      ahead : highest_beside Square beside (margin + x) ≡ get_or beside (margin + x + 1) 0 → Dec (w ≤ x + 1) → Source Square
      ahead e (yes d) = absurd (omega (arith, m.over (margin + x + 1) (omega arith)))
      ahead e (no d) = record {
        column = x + 1;
        inside = omega arith;
        is = same_place (margin + (x + 1)) (margin + x + 1) (omega arith) ∙ sym e;
        step = omega arith;
      }

      go : Dec (highest_beside Square beside (margin + x) ≤ get_or beside (margin + x) 0)
          → Dec (highest_beside Square beside (margin + x) ≤ get_or beside (margin + x - 1) 0) → Source Square
      go (yes d) f = record { column = x; inside = left; is = omega arith; step = omega arith }
      go (no d) (yes f) = back (omega arith) (dec_le 1 x)
      go (no d) (no f) = ahead (omega arith) (dec_le w (x + 1))

module _ (kd : Kind) (w : ℕ) (Own Beside Both : ℕ → Type 0) (q : ℕ → ℕ → ℕ) (y z : ℕ) (joins : Joins Own Beside Both y z)
    (row beside : List ℕ) (own : RowPropagated kd w Own q y row) (next : RowPropagated kd w Beside q z beside) where
  -- the highest of a row's own numbers and the row beside's, less 1, is propagated over both
  propagated-join : (x : ℕ) → x < w → (v : ℕ) → v ≡ joined_row kd beside row (margin + x) → Propagated kd w Both q x y v
  propagated-join x h v e = record { bound = λ a b g c. bound a b g (joins.split b c); met = met (dec_le v (get_or row (margin + x) 0)) }
    where
      bound : (a b : ℕ) → a < w → Own b ⊎ (Beside b × (gap (pos y) (pos b) ≡ suc (gap (pos z) (pos b)))) → q a b ≤ v + dist kd (cell x y) (cell a b)
      bound a b g (inl o) = omega (arith, (own.cells x h).bound a b g o)
      bound a b g (inr (i, n)) =
          let s = nearer-one w beside next.margins x y z h kd a b g n in
          omega (arith, s.low, s.nearer, (next.cells s.column s.inside).bound a b g i)

      of-own : v ≡ get_or row (margin + x) 0 → (get_or row (margin + x) 0 ≡ 0)
          ⊎ ((a : ℕ) × (b : ℕ) × (a < w) × Own b × (get_or row (margin + x) 0 + dist kd (cell x y) (cell a b) ≤ q a b)) → (v ≡ 0)
          ⊎ ((a : ℕ) × (b : ℕ) × (a < w) × Both b × (v + dist kd (cell x y) (cell a b) ≤ q a b))
      of-own g (inl o) = inl (g ∙ o)
      of-own g (inr (a, b, i, o, k)) = inr (a, b, i, joins.own_in b o, omega arith)

      of-next : (s : Source w beside next.margins x y z h kd) → v + 1 ≡ get_or beside (margin + s.column) 0
          → (get_or beside (margin + s.column) 0 ≡ 0)
          ⊎ ((a : ℕ) × (b : ℕ) × (a < w) × Beside b × (get_or beside (margin + s.column) 0 + dist kd (cell s.column z) (cell a b) ≤ q a b))
          → (v ≡ 0) ⊎ ((a : ℕ) × (b : ℕ) × (a < w) × Both b × (v + dist kd (cell x y) (cell a b) ≤ q a b))
      of-next s g (inl o) = absurd (omega arith)
      of-next s g (inr (a, b, i, o, k)) = inr (a, b, i, joins.beside-in b o, omega (arith, s.step, dist-tri kd (cell x y) (cell s.column z) (cell a b)))

      met : Dec (v ≤ get_or row (margin + x) 0) → (v ≡ 0) ⊎ ((a : ℕ) × (b : ℕ) × (a < w) × Both b × (v + dist kd (cell x y) (cell a b) ≤ q a b))
      met (yes g) = of-own (omega arith) (own.cells x h).met
      met (no g) =
          let s = source w beside next.margins x y z h kd joins.adjacent (omega arith) in
          of-next s (omega (arith, s.is)) (next.cells s.column s.inside).met

  pub joined-array : (row' : List ℕ) → Filled (joined_row kd beside row) margin (margin + w) row row' → RowPropagated kd w Both q y row'
  joined-array row' h =
      record {
        margins = margins-filled (joined_row kd beside row) w row row' own.margins h;
        cells = λ x l. propagated-join x l (get_or row' (margin + x) 0) (h.inside (margin + x) (omega arith) (omega arith));
      }

  module _ (beside' row' out out' : List ℕ) (h : Merged kd w (y * w) beside beside' row row' out out') where
    pub merged-array : RowPropagated kd w Both q y beside'
    merged-array = subst (RowPropagated kd w Both q y) (sym h.beside-is) (joined-array row' h.row_is)

    pub merged-cells : MapPropagated kd w Both q y out'
    merged-cells x l =
        let e : y * w + x - y * w ≡ x = omega arith in
        propagated-join x l (get_or out' (y * w + x) 0)
        (h.out-is.inside (y * w + x) (omega arith) (omega arith) ∙ ap (λ (i : ℕ). joined_row kd beside row (margin + i)) e)

-- all else in the map is as it was
pub merged-only : (kd : Kind) (w y : ℕ) (beside beside' row row' out out' : List ℕ) → Merged kd w (y * w) beside beside' row row' out out'
    → RowOnly w y out out'
merged-only kd w y beside beside' row row' out out' h = record { same = h.out-is.same; under = h.out-is.under; over = h.out-is.over }
