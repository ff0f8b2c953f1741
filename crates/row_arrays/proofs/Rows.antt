-- Laws of rows in arrays: what filling leaves of the margins, and how a doubling step widens what is known along a row.
use mathlib.Core.Path.{◌≡◌, refl, sym, ap, ◌∙◌, subst}
use mathlib.Core.Logic.{◌⊎◌, inl, inr}
use mathlib.Core.List.{List}
use Prim.Native.Nat.{ℕ, ◌+◌, ◌*◌, ◌-◌, ◌≤◌, ◌<◌, max}
use native.Mathlib.Nat.{add_assoc, sub-le, lt_of_le_of_lt, lt_of_not-le}
use native.Mathlib.Omega.{arith}
use native.Mathlib.Decide.{dec_le}
use lib.IntN.{pos}
use lib.ListN.{length, get_or, replicate, length-replicate, get_or-replicate, get_or-eq_default}
use lib.Seq.{ext_get_or}
use Rattle.geometry.specs.declared.Kind.{Kind}
use Rattle.geometry.specs.Plane.{gap}
use Rattle.buffers.specs.Fill.{Filled}
use Rattle.buffers.proofs.Fill.{filled-as, filled-copied}
use Rattle.row_arrays.specs.declared.Seeds.TheVariants.{Numbers}
use Rattle.refusal.specs.Refusals.{largest_side}
use Rattle.row_arrays.specs.Start.{wall_seed, seed}
use Rattle.row_arrays.specs.Rows.{margin, row_places, widest_row, row_reach, Margins, Row, propagated_at, Line, Widened, joined_row, with_columns, Merged}

-- ---- the numbers of row arrays

-- What they must be: an array holds the widest row with a margin to either side, and the plates of the largest side; their columns are
-- reached by the steps along a row of bytes, and a byte's number of a wall, less a distance on such a plate, is left above 0.
pub record RowFits : Type 0 where
  pub held : margin + widest_row + margin ≤ row_places
  pub holds : largest_side ≤ widest_row
  pub reached : largest_side ≤ row_reach
  pub above : largest_side < wall_seed

pub row_fits : RowFits
row_fits = record { held = omega arith; holds = omega arith; reached = omega arith; above = omega arith }

-- ---- margins

-- an array of zeros
abbrev pub zeros : List ℕ
zeros = replicate row_places 0

zeros-at : (n : ℕ) → get_or zeros n 0 ≡ 0
zeros-at n = go (dec_le row_places n)
  where
    go : Dec (row_places ≤ n) → get_or zeros n 0 ≡ 0
    go (yes h) = let l : length zeros ≤ n = omega (arith, length-replicate {A = ℕ} row_places 0) in get_or-eq_default zeros 0 l
    go (no h) = get_or-replicate row_places n 0 0 (omega arith)

pub row-zeros : (w : ℕ) → Row (λ x. 0) w zeros
row-zeros w =
    record {
      margins = record { size = length-replicate {A = ℕ} row_places 0; under = λ n h. zeros-at n; over = λ n h. zeros-at n };
      cells = λ x h. zeros-at (margin + x);
    }

module _ (f : ℕ → ℕ) (w : ℕ) (old new : List ℕ) (m : Margins w old) (h : Filled f margin (margin + w) old new) where
  pub margins-filled : Margins w new
  margins-filled =
      record {
        size = h.same ∙ m.size;
        under = λ n l. h.under n l ∙ m.under n l;
        over = λ n l. h.over n l ∙ m.over n l;
      }

-- filled by columns
pub row_of : (g : ℕ → ℕ) (w : ℕ) (old new : List ℕ) → Margins w old → Filled (λ n. g (n - margin)) margin (margin + w) old new → Row g w new
row_of g w old new m h =
    record {
      margins = margins-filled _ w old new m h;
      cells = λ x l. let e : margin + x - margin ≡ x = omega arith in h.inside (margin + x) (omega arith) (omega arith) ∙ ap g e;
    }

-- ---- along a row

module _ (q : ℕ → ℕ) (w : ℕ) where
  -- at the start each column knows itself
  pub line-start : (row : List ℕ) → Row q w row → Line q w 1 row
  line-start row r =
      record {
        margins = r.margins;
        bound = λ x a h l g. let e : x ≡ a = omega arith in omega (arith, r.cells a l, ap (λ (i : ℕ). get_or row (margin + i) 0) e);
        met = λ x h. inr (x, h, omega (arith, r.cells x h));
      }

-- which of the three places gives the highest
data Choice (v s a b c : ℕ) : Type 0 where
  none : v ≡ 0 → Choice v s a b c
  here : v ≡ a → Choice v s a b c
  back : v + s ≡ b → Choice v s a b c
  ahead : v + s ≡ c → Choice v s a b c

choice : (v s a b c : ℕ) → v ≡ max a (max (b - s) (c - s)) → Choice v s a b c
choice v s a b c e = go (dec_le v 0) (dec_le v a) (dec_le (v + s) b)
  where
    go : Dec (v ≤ 0) → Dec (v ≤ a) → Dec (v + s ≤ b) → Choice v s a b c
    go (yes h) d g = none (omega arith)
    go (no h) (yes d) g = here (omega arith)
    go (no h) (no d) (yes g) = back (omega arith)
    go (no h) (no d) (no g) = ahead (omega arith)

-- what the highest of the three is not below
no_lower : (v s a b c : ℕ) → v ≡ max a (max (b - s) (c - s)) → (a ≤ v) × (b ≤ v + s) × (c ≤ v + s)
no_lower v s a b c e = (omega arith, omega arith, omega arith)

-- gaps a step nearer, and the way over a third column
gap-ahead : (x s a : ℕ) → x + s ≤ a → gap (pos x) (pos a) ≡ gap (pos (x + s)) (pos a) + s
gap-ahead x s a h = omega arith

gap_back : (x s a : ℕ) → a + s ≤ x → gap (pos x) (pos a) ≡ gap (pos (x - s)) (pos a) + s
gap_back x s a h = omega arith

gap-under : (x s a : ℕ) → a < x + s → x < a + s → gap (pos x) (pos a) < s
gap-under x s a h l = omega arith

gap-over : (x s a : ℕ) → (gap (pos x) (pos a) ≤ s + gap (pos (x + s)) (pos a)) × (gap (pos (x + s)) (pos a) ≤ s + gap (pos x) (pos a))
gap-over x s a = (omega arith, omega arith)

-- a bound at a column, from the bound a step nearer; from the same column's
step-bound : {q b b' g : ℕ} (v h s : ℕ) → g ≡ h + s → q ≤ b + h → b' ≤ v + s → b' ≡ b → q ≤ v + g
step-bound v h s e f k o = omega arith

step-near : {g : ℕ} (h s : ℕ) → g ≡ h + s → g < 2 * s → h < s
step-near h s e l = omega arith

stay-bound : {q b : ℕ} (v g : ℕ) → q ≤ b + g → b ≤ v → q ≤ v + g
stay-bound v g f k = omega arith

past-margin : (x s a : ℕ) → a + s ≤ x → margin + x - s ≡ margin + (x - s)
past-margin x s a h = omega arith

-- a step in both directions doubles the reach
module _ (q : ℕ → ℕ) (w s : ℕ) (src dst dst' : List ℕ) (l : Line q w s src) (m : Margins w dst) (h : Filled (propagated_at src s) margin (margin + w)
    dst dst') (small : s ≤ margin) where
  new-at : (x : ℕ) → x < w → get_or dst' (margin + x) 0 ≡ propagated_at src s (margin + x)
  new-at x g = h.inside (margin + x) (omega arith) (omega arith)

  same_place : (i j : ℕ) → i ≡ j → get_or src i 0 ≡ get_or src j 0
  same_place i j e = ap (λ (k : ℕ). get_or src k 0) e

  bound-double : (x a : ℕ) → x < w → a < w → gap (pos x) (pos a) < 2 * s → q a ≤ get_or dst' (margin + x) 0 + gap (pos x) (pos a)
  bound-double x a hx ha g = go (dec_le (x + s) a) (dec_le (a + s) x)
    where
      low : (get_or src (margin + x) 0 ≤ get_or dst' (margin + x) 0) × (get_or src (margin + x - s) 0 ≤ get_or dst' (margin + x) 0 + s)
          × (get_or src (margin + x + s) 0 ≤ get_or dst' (margin + x) 0 + s)
      low = no_lower (get_or dst' (margin + x) 0) s (get_or src (margin + x) 0) (get_or src (margin + x - s) 0) (get_or src (margin + x + s) 0) (new-at x hx)

      go : Dec (x + s ≤ a) → Dec (a + s ≤ x) → q a ≤ get_or dst' (margin + x) 0 + gap (pos x) (pos a)
      go (yes d) e =
          let u : gap (pos x) (pos a) ≡ gap (pos (x + s)) (pos a) + s = gap-ahead x s a d in
          step-bound (get_or dst' (margin + x) 0) (gap (pos (x + s)) (pos a)) s u
          (l.bound (x + s) a (lt_of_le_of_lt d ha) ha (step-near (gap (pos (x + s)) (pos a)) s u g)) low.2
          (same_place (margin + x + s) (margin + (x + s)) (add_assoc margin x s))
      go (no d) (yes e) =
          let u : gap (pos x) (pos a) ≡ gap (pos (x - s)) (pos a) + s = gap_back x s a e in
          step-bound (get_or dst' (margin + x) 0) (gap (pos (x - s)) (pos a)) s u
          (l.bound (x - s) a (lt_of_le_of_lt (sub-le x s) hx) ha (step-near (gap (pos (x - s)) (pos a)) s u g)) low.1
          (same_place (margin + x - s) (margin + (x - s)) (past-margin x s a e))
      go (no d) (no e) = stay-bound (get_or dst' (margin + x) 0) (gap (pos x) (pos a))
          (l.bound x a hx ha (gap-under x s a (lt_of_not-le d) (lt_of_not-le e))) low.0

  abbrev Met : ℕ → Type 0
  Met x = (get_or dst' (margin + x) 0 ≡ 0) ⊎ ((a : ℕ) × (a < w) × (get_or dst' (margin + x) 0 + gap (pos x) (pos a) ≤ q a))

  met-double : (x : ℕ) → x < w → Met x
  met-double x hx = go (choice (get_or dst' (margin + x) 0) s (get_or src (margin + x) 0) (get_or src (margin + x - s) 0) (get_or src (margin + x + s) 0) (new-at x hx))
    where
      v : ℕ
      v = get_or dst' (margin + x) 0

      -- the number came from a column z, at a place i
      from : (z i : ℕ) → i ≡ margin + z → (k : ℕ) → v + k ≡ get_or src i 0 → ((a : ℕ) → gap (pos x) (pos a) ≤ k + gap (pos z) (pos a))
          → (get_or src (margin + z) 0 ≡ 0) ⊎ ((a : ℕ) × (a < w) × (get_or src (margin + z) 0 + gap (pos z) (pos a) ≤ q a)) → Met x
      from z i e k n o (inl d) = inl (omega (arith, same_place i (margin + z) e))
      from z i e k n o (inr d) = inr (d.0, d.1, omega (arith, d.2, o d.0, same_place i (margin + z) e))

      -- a number that came from a margin is 0
      lost : (i k : ℕ) → v + k ≡ get_or src i 0 → get_or src i 0 ≡ 0 → Met x
      lost i k e z = inl (omega arith)

      left : v + s ≡ get_or src (margin + x - s) 0 → Dec (s ≤ x) → Met x
      left e (yes d) = from (x - s) (margin + x - s) (omega arith) s e
          (λ a. let o : x - s + s ≡ x = omega arith in omega (arith, (gap-over (x - s) s a).1, ap (λ (i : ℕ). gap (pos i) (pos a)) o))
          (l.met (x - s) (omega arith))
      left e (no d) = lost (margin + x - s) s e (l.margins.under (margin + x - s) (omega arith))

      right : v + s ≡ get_or src (margin + x + s) 0 → Dec (w ≤ x + s) → Met x
      right e (yes d) = lost (margin + x + s) s e (l.margins.over (margin + x + s) (omega arith))
      right e (no d) = from (x + s) (margin + x + s) (omega arith) s e (λ a. (gap-over x s a).0) (l.met (x + s) (omega arith))

      go : Choice v s (get_or src (margin + x) 0) (get_or src (margin + x - s) 0) (get_or src (margin + x + s) 0) → Met x
      go (none e) = inl e
      go (here e) = from x (margin + x) refl 0 (omega arith) (λ a. omega arith) (l.met x hx)
      go (back e) = left e (dec_le s x)
      go (ahead e) = right e (dec_le w (x + s))

  pub line-double : Line q w (2 * s) dst'
  line-double = record { margins = margins-filled (propagated_at src s) w dst dst' m h; bound = bound-double; met = met-double }

-- two steps, to the spare row and back
pub widened_twice : (w s : ℕ) (row row' spare spare' : List ℕ) → Margins w row → Margins w spare
    → Filled (propagated_at row s) margin (margin + w) spare spare' → Filled (propagated_at spare' (2 * s)) margin (margin + w) row row' → 2 * s ≤ margin
    → Widened w s (4 * s) row row' spare'
widened_twice w s row row' spare spare' m n h g k =
    record {
      line = λ q l. let e : 2 * (2 * s) ≡ 4 * s = omega arith in
          subst (λ (j : ℕ). Line q w j row') e
          (line-double q w (2 * s) spare' row row' (line-double q w s row spare spare' l n h (omega arith)) m g (omega arith));
      row-margins = margins-filled (propagated_at spare' (2 * s)) w row row' m g;
      spare-margins = margins-filled (propagated_at row s) w spare spare' n h;
    }

-- ---- the row beside

-- an array with the columns of another is the other: both have the same zeros
pub copied : (w : ℕ) (src dst dst' : List ℕ) → w ≤ widest_row → Margins w src → Margins w dst → dst' ≡ with_columns w src dst → dst' ≡ src
copied w src dst dst' narrow s d e =
    ext_get_or 0 dst' src (h.same ∙ d.size ∙ sym s.size) (λ n l. at_place n (dec_le margin n) (dec_le (margin + w) n))
  where
    h : Filled (λ n. get_or src n 0) margin (margin + w) dst dst'
    h =
        subst (Filled (λ n. get_or src n 0) margin (margin + w) dst) (sym e)
        (filled-copied _ margin w (margin + w) dst _ refl (omega (arith, d.size)) src margin w refl refl (omega (arith, s.size)) (λ n l. refl))

    at_place : (n : ℕ) → Dec (margin ≤ n) → Dec (margin + w ≤ n) → get_or dst' n 0 ≡ get_or src n 0
    at_place n (no a) b = h.under n (omega arith) ∙ d.under n (omega arith) ∙ sym (s.under n (omega arith))
    at_place n (yes a) (yes b) = h.over n b ∙ d.over n b ∙ sym (s.over n b)
    at_place n (yes a) (no b) = h.inside n a (omega arith)

-- the joined row, stored and left as the next row's row beside
pub merged : (kd : Kind) (w from : ℕ) (beside beside' row row' out out' : List ℕ) → w ≤ widest_row → Margins w beside → Margins w row
    → Filled (joined_row kd beside row) margin (margin + w) row row' → Filled (λ n. get_or row' (margin + (n - from)) 0) from (from + w) out out'
    → beside' ≡ with_columns w row' beside → Merged kd w from beside beside' row row' out out'
merged kd w from beside beside' row row' out out' narrow m z r o b =
    record {
      row_is = r;
      beside-is = copied w row' beside beside' narrow (margins-filled (joined_row kd beside row) w row row' z r) m b;
      out-is = filled-as (λ n. get_or row' (margin + (n - from)) 0) (λ n. joined_row kd beside row (margin + (n - from))) from (from + w) out out' o
          (λ n h l. r.inside (margin + (n - from)) (omega arith) (omega arith));
    }

-- ---- a row of a map

-- a map's own numbers in an array
pub row_loaded : (w from : ℕ) (map row row' : List ℕ) → Margins w row
    → Filled (λ n. max (seed Numbers (get_or map (from + (n - margin)) 0)) 0) margin (margin + w) row row' → Row (λ x. get_or map (from + x) 0) w row'
row_loaded w from map row row' m h =
    row_of (λ x. get_or map (from + x) 0) w row row' m (filled-as _ (λ n. get_or map (from + (n - margin)) 0) margin (margin + w) row row' h (λ n a b. omega arith))
