-- Laws of one erosion step: runs of places, borders, and where the nine bytes about a place are a cell's window.
use mathlib.Core.Path.{◌≡◌, refl, sym, ap, ◌∙◌, subst}
use mathlib.Core.Logic.{◌⊎◌, inl, inr, ◌≢◌}
use mathlib.Core.List.Memᴰ
use mathlib.Core.List.{List, [], ◌∷◌}
use Prim.Native.Nat.{ℕ, zero, suc, ◌+◌, ◌*◌, ◌-◌, ◌≤◌, ◌<◌, max}
use native.Mathlib.Omega.{arith}
use native.Mathlib.Decide.{dec_le, ℕ_discrete}
use native.Mathlib.Nat.{suc-mul, mul-le-mul_right}
use borrow.Author.Tests.{lt-ltb, le-ltb}
use lib.Arith.{digits_lt}
use lib.ListN.{length, get_or, set, length-set}
use lib.Seq.{get_or-set_same, get_or-set_other}
use Rattle.geometry.specs.declared.Kind.{Kind}
use Rattle.geometry.specs.declared.Kind.TheVariants.{Diamond, Square}
use Rattle.geometry.specs.declared.Head.{Head}
use Rattle.geometry.specs.Plane.{Cell, cell, dist, neighbours, west, north}
use Rattle.geometry.specs.Lists.{lowest}
use Rattle.geometry.specs.Plate.{area, at}
use Rattle.window.specs.Windows.{window_min, around}
use Rattle.window.specs.Places.{window_in}
use Rattle.window.proofs.Windows.{interior-min-near}
use Rattle.theory.specs.Near.{lowest_near}
use Rattle.theory.proofs.Lists.{min-choice, fold-extreme}
use Rattle.theory.proofs.Distance.{gap-self, gap-moved, moved, Move, back, on, near-in}
use Rattle.theory.proofs.Plate.{at-cell}
use Rattle.buffers.specs.Fill.{Filled}
use Rattle.buffers.proofs.Fill.{filled_none, filled_more, rows_in, row_under, row-over}
use Rattle.buffers.proofs.Rooms.{row_room, rows-room, inner_room}
use Rattle.buffers.specs.Margin.{Margin}
use Rattle.buffers.specs.Runs.{Interior}
use Rattle.erosion_step.specs.Steps.{Eroded, SidesZeroed, Stepped}

-- ---- runs

module _ (kd : Kind) (src : List ℕ) (w from : ℕ) (old : List ℕ) where
  pub eroded-none : (r : ℕ) → Eroded kd src w from from old old r
  eroded-none r = record { filled = filled_none _ from old; top = λ n a b. absurd (omega arith) }

  pub eroded-more : (n v r s : ℕ) (mid : List ℕ) → Eroded kd src w from n old mid r → from ≤ n → n < length old → v ≡ window_min kd (window_in src w n)
      → s ≡ max r v → Eroded kd src w from (n + 1) old (set mid n v) s
  eroded-more n v r s mid e h l g k =
      record { filled = filled_more _ from n v old mid e.filled h l g; top = λ j a b. in-turn j a b (dec_le n j) }
    where
      in-turn : (j : ℕ) → from ≤ j → j < n + 1 → Dec (n ≤ j) → get_or (set mid n v) j 0 ≤ s
      in-turn j a b (yes d) = let i : j ≡ n = omega arith in rw i (omega (arith, get_or-set_same mid n v 0 (omega (arith, e.filled.same))))
      in-turn j a b (no d) = omega (arith, get_or-set_other mid n j v 0 (omega arith), e.top j a (omega arith))

-- ---- the lowest among a cell and its neighbours

col-step : (kd : Kind) (s : Move) (c : Cell) → dist kd c (record { col = moved s c.col; row = c.row }) ≤ 1
col-step Diamond s c = omega (arith, gap-moved s c.col, gap-self c.row)
col-step Square s c = omega (arith, gap-moved s c.col, gap-self c.row)

row_step : (kd : Kind) (s : Move) (c : Cell) → dist kd c (record { col = c.col; row = moved s c.row }) ≤ 1
row_step Diamond s c = omega (arith, gap-moved s c.row, gap-self c.col)
row_step Square s c = omega (arith, gap-moved s c.row, gap-self c.col)

module _ (kd : Kind) (f : Cell → ℕ) where
  low-near : (c n : Cell) → dist kd c n ≤ 1 → lowest_near kd f c ≤ f n
  low-near c n h = (fold-extreme min-choice f c (neighbours kd c)).bound n (near-in kd c n h)

  pub low-here : (c : Cell) → lowest_near kd f c ≤ f c
  low-here c = (fold-extreme min-choice f c (neighbours kd c)).bound c (Memᴰ.head refl)

module _ (p : Head) (m : List ℕ) where
  -- 0 where the cell is 0, and where a cell beside it is
  abbrev low : ℕ → ℕ → ℕ
  low x y = lowest_near p.kind (at p m) (cell x y)

  pub low-zero : (x y : ℕ) → x < p.width → y < p.height → get_or m (y * p.width + x) 0 ≡ 0 → low x y ≡ 0
  low-zero x y h l e = omega (arith, low-here p.kind (at p m) (cell x y), at-cell p m x y h l)

  pub low-north : (x y : ℕ) → x < p.width → suc y < p.height → get_or m (y * p.width + x) 0 ≡ 0 → low x (suc y) ≡ 0
  low-north x y h l e = omega (
    arith,
    low-near p.kind (at p m) (cell x (suc y)) (cell x y) (row_step p.kind back (cell x (suc y))),
    at-cell p m x y h (omega arith),
  )

  pub low-south : (x y : ℕ) → x < p.width → suc y < p.height → get_or m (suc y * p.width + x) 0 ≡ 0 → low x y ≡ 0
  low-south x y h l e = omega (arith, low-near p.kind (at p m) (cell x y) (cell x (suc y)) (row_step p.kind on (cell x y)), at-cell p m x (suc y) h l)

  -- 0 along the plate's border
  pub low-west : (y : ℕ) → low 0 y ≡ 0
  low-west y = omega (arith, low-near p.kind (at p m) (cell 0 y) (west (cell 0 y)) (col-step p.kind back (cell 0 y)))

  pub low-top : (x : ℕ) → low x 0 ≡ 0
  low-top x = omega (arith, low-near p.kind (at p m) (cell x 0) (north (cell x 0)) (row_step p.kind back (cell x 0)))

  pub low-east : (x y : ℕ) → p.width ≤ suc x → low x y ≡ 0
  low-east x y h =
      let z : at p m (cell (suc x) y) ≡ 0 = rw (le-ltb _ _ h) in
      omega (arith, low-near p.kind (at p m) (cell x y) (cell (suc x) y) (col-step p.kind on (cell x y)))

  pub low-bottom : (x y : ℕ) → x < p.width → p.height ≤ suc y → low x y ≡ 0
  low-bottom x y l h =
      let z : at p m (cell x (suc y)) ≡ 0 = rw (lt-ltb _ _ l, le-ltb _ _ h) in
      omega (arith, low-near p.kind (at p m) (cell x y) (cell x (suc y)) (row_step p.kind on (cell x y)))

  -- inside the border the nine bytes about a place are the cell's window
  pub low-inside : (x y : ℕ) → 1 ≤ x → x + 1 < p.width → 1 ≤ y → y + 1 < p.height → window_min p.kind (window_in m p.width (y * p.width + x)) ≡ low x y
  low-inside x y a b c d = interior-min-near p m x y a b c d

-- where that is 0 at every cell, zeros are the whole step
all-zero : (p : Head) (src old new : List ℕ) → Filled (λ n. 0) 0 (area p) old new → ((i j : ℕ) → i < p.width → j < p.height → low p src i j ≡ 0)
    → Stepped p src old new 0
all-zero p src old new f z =
    record {
      map = record {
        same = f.same;
        holds = λ i j a b. f.inside (j * p.width + i) (omega arith) (digits_lt b a) ∙ sym (z i j a b);
        surplus = f.over;
      };
      top = λ i j a b. omega (arith, f.inside (j * p.width + i) (omega arith) (digits_lt b a));
    }

-- ---- the first and the last column

-- the sides of row y lie before place n
pub record SidesRoom (w y n : ℕ) : Type 0 where
  pub row : y * w + w ≤ n
  pub first : y * w < n
  pub last : y * w + w - 1 < n

pub sides-room : (w y h n : ℕ) → 1 ≤ w → y < h → h * w ≤ n → SidesRoom w y n
sides-room w y h n a b c =
    let r = row_room w y h n b c in
    record { row = r; first = omega arith; last = omega arith }

-- a place inside a row is no row's side
off-sides : (w x j y : ℕ) → 1 ≤ x → x + 1 < w → (j * w + x ≢ y * w) × (j * w + x ≢ y * w + w - 1)
off-sides w x j y a b = go (dec_le (suc j) y) (dec_le (suc y) j)
  where
    go : Dec (suc j ≤ y) → Dec (suc y ≤ j) → (j * w + x ≢ y * w) × (j * w + x ≢ y * w + w - 1)
    go (yes c) d = let e = row_under w y x j (omega arith) c in (omega (arith, e), omega (arith, e))
    go (no c) (yes d) = let e = row_room w y j (j * w) d (omega arith) in (omega (arith, e), omega (arith, e))
    go (no c) (no d) = let e : j ≡ y = omega arith in rw e (omega arith, omega arith)

-- a 0 stays one where another is written
zero-stays : (l : List ℕ) (i n : ℕ) → i < length l → get_or l n 0 ≡ 0 → get_or (set l i 0) n 0 ≡ 0
zero-stays l i n h z = go (ℕ_discrete i n)
  where
    go : Dec (i ≡ n) → get_or (set l i 0) n 0 ≡ 0
    go (yes e) = subst (λ (k : ℕ). get_or (set l i 0) k 0 ≡ 0) e (get_or-set_same l i 0 0 h)
    go (no e) = get_or-set_other l i n 0 0 (omega arith) ∙ z

-- a buffer with 0 at the two sides of row y
abbrev pub sided : ℕ → ℕ → List ℕ → List ℕ
sided w y m = set (set m (y * w) 0) (y * w + w - 1) 0

module _ (w h : ℕ) (old : List ℕ) where
  pub sides-none : SidesZeroed w h 0 old old
  sides-none =
      record {
        same = refl;
        first = λ y a. absurd (omega arith);
        last = λ y a. absurd (omega arith);
        inside = λ x y a b c. refl;
        surplus = λ n a. refl;
      }

  pub sides-more : (y : ℕ) (mid : List ℕ) → 1 ≤ w → y < h → h * w ≤ length old → SidesZeroed w h y old mid
      → SidesZeroed w h (y + 1) old (sided w y mid)
  sides-more y mid a b c s =
      record {
        same = length-set (set mid (y * w) 0) (y * w + w - 1) 0 ∙ length-set mid (y * w) 0 ∙ s.same;
        first = λ j d. at_first j d (dec_le y j);
        last = λ j d. at_last j d (dec_le y j);
        inside = λ x j d e f. elsewhere (j * w + x) (off-sides w x j y d e).0 (off-sides w x j y d e).1 ∙ s.inside x j d e f;
        surplus = λ n d. elsewhere n (omega (arith, r.first, d)) (omega (arith, r.last, d)) ∙ s.surplus n d;
      }
    where
      r : SidesRoom w y (h * w)
      r = sides-room w y h (h * w) a b (omega arith)

      one : y * w < length mid
      one = omega (arith, r.first, c, s.same)

      two : y * w + w - 1 < length (set mid (y * w) 0)
      two = omega (arith, r.last, c, s.same, length-set mid (y * w) 0)

      elsewhere : (n : ℕ) → n ≢ y * w → n ≢ y * w + w - 1 → get_or (sided w y mid) n 0 ≡ get_or mid n 0
      elsewhere n d e = get_or-set_other (set mid (y * w) 0) (y * w + w - 1) n 0 0 (omega arith) ∙ get_or-set_other mid (y * w) n 0 0 (omega arith)

      kept : (n : ℕ) → get_or mid n 0 ≡ 0 → get_or (sided w y mid) n 0 ≡ 0
      kept n z = zero-stays (set mid (y * w) 0) (y * w + w - 1) n two (zero-stays mid (y * w) n one z)

      at_first : (j : ℕ) → j < y + 1 → Dec (y ≤ j) → get_or (sided w y mid) (j * w) 0 ≡ 0
      at_first j d (yes e) =
          let k : j ≡ y = omega arith in
          rw k (zero-stays (set mid (y * w) 0) (y * w + w - 1) (y * w) two (get_or-set_same mid (y * w) 0 0 one))
      at_first j d (no e) = kept (j * w) (s.first j (omega arith))

      at_last : (j : ℕ) → j < y + 1 → Dec (y ≤ j) → get_or (sided w y mid) (j * w + w - 1) 0 ≡ 0
      at_last j d (yes e) = let k : j ≡ y = omega arith in rw k (get_or-set_same (set mid (y * w) 0) (y * w + w - 1) 0 0 two)
      at_last j d (no e) = kept (j * w + w - 1) (s.last j (omega arith))

-- ---- the first erosion, all rows in one run

-- where the run of a first erosion lies among n bytes
pub record FirstRoom (w n : ℕ) : Type 0 where
  pub under : w + 1 ≤ n - w - 1
  pub over : n - w - 1 + w + 1 ≡ n

pub first-room : (w h : ℕ) → 3 ≤ w → 3 ≤ h → FirstRoom w (h * w)
first-room w h a b =
    let r = rows-room w 1 2 h (h * w) (omega arith) (omega arith) b (omega arith) in
    record { under = omega (arith, r, a); over = omega (arith, r, a) }

pub first-interior : (w h : ℕ) (m : List ℕ) → 3 ≤ w → 3 ≤ h → h * w ≤ length m → Interior w (w + 1) (h * w - w - 1) m
first-interior w h m a b c =
    let r = first-room w h a b in
    record { under = omega arith; ordered = r.under; over = omega (arith, r.over, c) }

-- the zeros before the run, the run, the zeros after it, and the sides
pub record FirstRun (p : Head) (src old first mid second new : List ℕ) (r : ℕ) : Type 0 where
  pub upper : Filled (λ n. 0) 0 (p.width + 1) old first
  pub run : Eroded p.kind src p.width (p.width + 1) (area p - p.width - 1) first mid r
  pub lower : Filled (λ n. 0) (area p - p.width - 1) (area p) mid second
  pub sides : SidesZeroed p.width p.height p.height second new

module _ (p : Head) (src old first mid second new : List ℕ) (r : ℕ) (wide : 3 ≤ p.width) (high : 3 ≤ p.height) (e : FirstRun p src old first mid second
    new r) where
  room : FirstRoom p.width (area p)
  room = first-room p.width p.height wide high

  -- the border is 0
  first-side : (i j : ℕ) → i < p.width → j < p.height → (i < 1) ⊎ (p.width ≤ i + 1) → get_or new (j * p.width + i) 0 ≡ 0
  first-side i j a b (inl c) = let z : j * p.width + i ≡ j * p.width = omega arith in ap (λ (n : ℕ). get_or new n 0) z ∙ e.sides.first j b
  first-side i j a b (inr c) =
      let z : j * p.width + i ≡ j * p.width + p.width - 1 = omega arith in
      ap (λ (n : ℕ). get_or new n 0) z ∙ e.sides.last j b

  first-top : (i : ℕ) → 1 ≤ i → i + 1 < p.width → get_or new (0 * p.width + i) 0 ≡ 0
  first-top i a b =
      e.sides.inside i 0 a b (omega arith)
      ∙ e.lower.under (0 * p.width + i) (omega (arith, room.under))
      ∙ e.run.filled.under (0 * p.width + i) (omega arith)
      ∙ e.upper.inside (0 * p.width + i) (omega arith) (omega arith)

  first-bottom : (i j : ℕ) → 1 ≤ i → i + 1 < p.width → j < p.height → p.height ≤ j + 1 → get_or new (j * p.width + i) 0 ≡ 0
  first-bottom i j a b c d =
      let z : suc j ≡ p.height = omega arith in
      let l : j * p.width + p.width ≡ area p = sym (suc-mul j p.width) ∙ ap (λ (n : ℕ). n * p.width) z in
      e.sides.inside i j a b c ∙ e.lower.inside (j * p.width + i) (omega (arith, room.over, l)) (omega (arith, l))

  -- places of inner cells lie in the run
  first-in : (i j : ℕ) → 1 ≤ i → i + 1 < p.width → 1 ≤ j → j + 1 < p.height → (p.width + 1 ≤ j * p.width + i) × (j * p.width + i < area p - p.width - 1)
  first-in i j a b c d = let s = inner_room p.width j p.height (area p) c d (omega arith) in (omega (arith, s.0), omega (arith, s.1, room.over))

  first_inner : (i j : ℕ) → 1 ≤ i → i + 1 < p.width → 1 ≤ j → j + 1 < p.height → get_or new (j * p.width + i) 0 ≡ get_or mid (j * p.width + i) 0
  first_inner i j a b c d = e.sides.inside i j a b (omega arith) ∙ e.lower.under (j * p.width + i) (first-in i j a b c d).1

  first-held : (i j : ℕ) → i < p.width → j < p.height → Dec (1 ≤ i) → Dec (i + 2 ≤ p.width) → Dec (1 ≤ j) → Dec (j + 2 ≤ p.height)
      → (get_or new (j * p.width + i) 0 ≡ low p src i j) × (get_or new (j * p.width + i) 0 ≤ r)
  first-held i j a b (no c) d f g =
      let z : i ≡ 0 = omega arith in
      let s = first-side i j a b (inl (omega arith)) in
      (s ∙ sym (ap (λ (n : ℕ). low p src n j) z ∙ low-west p src j), omega (arith, s))
  first-held i j a b (yes c) (no d) f g =
      let s = first-side i j a b (inr (omega arith)) in
      (s ∙ sym (low-east p src i j (omega arith)), omega (arith, s))
  first-held i j a b (yes c) (yes d) (no f) g =
      let z : j ≡ 0 = omega arith in
      let s = ap (λ (n : ℕ). get_or new (n * p.width + i) 0) z ∙ first-top i c (omega arith) in
      (s ∙ sym (ap (λ (n : ℕ). low p src i n) z ∙ low-top p src i), omega (arith, s))
  first-held i j a b (yes c) (yes d) (yes f) (no g) =
      let s = first-bottom i j c (omega arith) b (omega arith) in
      (s ∙ sym (low-bottom p src i j a (omega arith)), omega (arith, s))
  first-held i j a b (yes c) (yes d) (yes f) (yes g) =
      let c' : i + 1 < p.width = omega arith in
      let g' : j + 1 < p.height = omega arith in
      let s = first_inner i j c c' f g' in
      let n = first-in i j c c' f g' in
      let v = e.run.filled.inside (j * p.width + i) n.0 n.1 in
      (s ∙ v ∙ low-inside p src i j c c' f g', omega (arith, s, e.run.top (j * p.width + i) n.0 n.1))

  pub first-all : Stepped p src old new r
  first-all =
      record {
        map = record {
          same = e.sides.same ∙ e.lower.same ∙ e.run.filled.same ∙ e.upper.same;
          holds = λ i j a b. (first-held i j a b (dec_le 1 i) (dec_le (i + 2) p.width) (dec_le 1 j) (dec_le (j + 2) p.height)).0;
          surplus = λ n a. past n a;
        };
        top = λ i j a b. (first-held i j a b (dec_le 1 i) (dec_le (i + 2) p.width) (dec_le 1 j) (dec_le (j + 2) p.height)).1;
      }
    where
      past : (n : ℕ) → area p ≤ n → get_or new n 0 ≡ get_or old n 0
      past n a =
          e.sides.surplus n a
          ∙ e.lower.over n a
          ∙ e.run.filled.over n (omega (arith, room.over, a))
          ∙ e.upper.over n (omega (arith, room.under, room.over, a))

-- of a plate less than three wide or high the first erosion is 0
pub first_small : (p : Head) (src old new : List ℕ) → (p.width < 3) ⊎ (p.height < 3) → Filled (λ n. 0) 0 (area p) old new → Stepped p src old new 0
first_small p src old new h f = all-zero p src old new f (λ i j a b. none i j a h (dec_le 1 i) (dec_le 1 j))
  where
    none : (i j : ℕ) → i < p.width → (p.width < 3) ⊎ (p.height < 3) → Dec (1 ≤ i) → Dec (1 ≤ j) → low p src i j ≡ 0
    none i j a (inl g) (no c) d = let z : i ≡ 0 = omega arith in ap (λ (n : ℕ). low p src n j) z ∙ low-west p src j
    none i j a (inl g) (yes c) d = low-east p src i j (omega arith)
    none i j a (inr g) c (no d) = let z : j ≡ 0 = omega arith in ap (λ (n : ℕ). low p src i n) z ∙ low-top p src i
    none i j a (inr g) c (yes d) = low-bottom p src i j a (omega arith)

-- ---- a later erosion, all rows in one run

low_first : (a : ℕ) (l : List ℕ) → lowest a l ≤ a
low_first a [] = omega arith
low_first a (n ∷ l) = omega (arith, low_first a l)

-- within k + 1 of the border the next erosion is 0
module _ (p : Head) (k : ℕ) (src : List ℕ) (m : Margin p k src) where
  fringe-top : (i j : ℕ) → i < p.width → j < p.height → j ≤ k → lowest_near p.kind (at p src) (cell i j) ≡ 0
  fringe-top i zero a b h = low-top p src i
  fringe-top i (suc j) a b h = low-north p src i j a b (m.north i j a (omega arith) (omega arith))

  fringe-bottom : (i j : ℕ) → i < p.width → j < p.height → p.height ≤ j + k + 1 → lowest_near p.kind (at p src) (cell i j) ≡ 0
  fringe-bottom i j a b h = go (dec_le (suc (suc j)) p.height)
    where
      go : Dec (suc (suc j) ≤ p.height) → lowest_near p.kind (at p src) (cell i j) ≡ 0
      go (yes l) = low-south p src i j a l (m.south i (suc j) a l (omega arith))
      go (no l) = low-bottom p src i j a (omega arith)

-- the two stretches of rows that are zeroed, and the run between them
pub record NextRun (p : Head) (k : ℕ) (src old first second new : List ℕ) (r : ℕ) : Type 0 where
  pub upper : Filled (λ n. 0) ((k - 1) * p.width) ((k + 1) * p.width) old first
  pub lower : Filled (λ n. 0) ((p.height - k - 1) * p.width) ((p.height - k + 1) * p.width) first second
  pub run : Eroded p.kind src p.width ((k + 1) * p.width) ((p.height - k - 1) * p.width) second new r

module _ (p : Head) (k : ℕ) (src old first second new : List ℕ) (r : ℕ) (some : 1 ≤ k) (enough : 2 * k + 3 ≤ p.height) (source : Margin p k
    src) (target : Margin p (k - 1) old) (e : NextRun p k src old first second new r) where
  abbrev w : ℕ
  w = p.width

  -- a place before or after all of it is as it was
  as_before : (n : ℕ) → (n < (k - 1) * w) ⊎ ((p.height - k + 1) * w ≤ n) → get_or new n 0 ≡ get_or old n 0
  as_before n (inl a) =
      let b : n < (k + 1) * w = omega (arith, mul-le-mul_right w (less_two k)) in
      let c : n < (p.height - k - 1) * w = omega (arith, mul-le-mul_right w (next-rows k p.height enough)) in
      e.run.filled.under n b ∙ e.lower.under n c ∙ e.upper.under n a
    where
      less_two : (k : ℕ) → k - 1 ≤ k + 1
      less_two k = omega arith

      next-rows : (k h : ℕ) → 2 * k + 3 ≤ h → k - 1 ≤ h - k - 1
      next-rows k h l = omega arith
  as_before n (inr a) =
      let b : (p.height - k - 1) * w ≤ n = omega (arith, mul-le-mul_right w (more k p.height)) in
      let c : (k + 1) * w ≤ n = omega (arith, mul-le-mul_right w (enough-rows k p.height enough)) in
      e.run.filled.over n b ∙ e.lower.over n a ∙ e.upper.over n c
    where
      more : (k h : ℕ) → h - k - 1 ≤ h - k + 1
      more k h = omega arith

      enough-rows : (k h : ℕ) → 2 * k + 3 ≤ h → k + 1 ≤ h - k + 1
      enough-rows k h l = omega arith

  abbrev low' : ℕ → ℕ → ℕ
  low' i j = lowest_near p.kind (at p src) (cell i j)

  -- where the middle byte is 0, so is the lowest of the nine, and the next erosion
  middle : (i j : ℕ) → i < w → k + 1 ≤ j → j < p.height - k - 1 → get_or src (j * w + i) 0 ≡ 0 → get_or new (j * w + i) 0 ≡ low' i j
  middle i j a b c z =
      let s = rows_in w (k + 1) (p.height - k - 1) i j a b c in
      omega (
        arith,
        e.run.filled.inside (j * w + i) s.0 s.1,
        z,
        low_first (get_or src (j * w + i) 0) (around p.kind (window_in src w (j * w + i))),
        low-zero p src i j a (omega arith) z,
      )

  inside : (i j : ℕ) → i < w → k + 1 ≤ j → j < p.height - k - 1 → Dec (1 ≤ i) → Dec (i + 2 ≤ w) → get_or new (j * w + i) 0 ≡ low' i j
  inside i j a b c (no d) g = middle i j a b c (source.west i j a (omega arith) (omega arith))
  inside i j a b c (yes d) (no g) = middle i j a b c (source.east i j a (omega arith) (omega arith))
  inside i j a b c (yes d) (yes g) =
      let s = rows_in w (k + 1) (p.height - k - 1) i j a b c in
      e.run.filled.inside (j * w + i) s.0 s.1 ∙ low-inside p src i j d (omega arith) (omega arith) (omega arith)

  -- a row outside the run is 0
  zeroed : (i j : ℕ) → i < w → j < p.height → (j < k + 1) ⊎ (p.height - k - 1 ≤ j) → get_or new (j * w + i) 0 ≡ 0
  zeroed i j a b (inl h) = go (dec_le (k - 1) j)
    where
      go : Dec (k - 1 ≤ j) → get_or new (j * w + i) 0 ≡ 0
      go (no l) = as_before (j * w + i) (inl (row_under w (k - 1) i j a (omega arith))) ∙ target.north i j a b (omega arith)
      go (yes l) =
          let s = rows_in w (k - 1) (k + 1) i j a l h in
          e.run.filled.under (j * w + i) s.1 ∙ e.lower.under (j * w + i) (row_under w (p.height - k - 1) i j a (omega arith))
          ∙ e.upper.inside (j * w + i) s.0 s.1
  zeroed i j a b (inr h) = go (dec_le (p.height - k + 1) j)
    where
      go : Dec (p.height - k + 1 ≤ j) → get_or new (j * w + i) 0 ≡ 0
      go (yes l) = as_before (j * w + i) (inr (row-over w (p.height - k + 1) i j l)) ∙ target.south i j a b (omega arith)
      go (no l) =
          let s = rows_in w (p.height - k - 1) (p.height - k + 1) i j a h (omega arith) in
          e.run.filled.over (j * w + i) s.0 ∙ e.lower.inside (j * w + i) s.0 s.1

  pub next-all : Stepped p src old new r
  next-all =
      record {
        map = record {
          same = e.run.filled.same ∙ e.lower.same ∙ e.upper.same;
          holds = λ i j a b. held i j a b (dec_le (k + 1) j) (dec_le (p.height - k - 1) j);
          surplus = λ n a. as_before n (inr (omega (arith, mul-le-mul_right w last)));
        };
        top = λ i j a b. topped i j a b (dec_le (k + 1) j) (dec_le (p.height - k - 1) j);
      }
    where
      last : p.height - k + 1 ≤ p.height
      last = omega arith

      held : (i j : ℕ) → i < w → j < p.height → Dec (k + 1 ≤ j) → Dec (p.height - k - 1 ≤ j) → get_or new (j * w + i) 0 ≡ low' i j
      held i j a b (no c) d = zeroed i j a b (inl (omega arith)) ∙ sym (fringe-top p k src source i j a b (omega arith))
      held i j a b (yes c) (yes d) = zeroed i j a b (inr d) ∙ sym (fringe-bottom p k src source i j a b (omega arith))
      held i j a b (yes c) (no d) = inside i j a c (omega arith) (dec_le 1 i) (dec_le (i + 2) w)

      topped : (i j : ℕ) → i < w → j < p.height → Dec (k + 1 ≤ j) → Dec (p.height - k - 1 ≤ j) → get_or new (j * w + i) 0 ≤ r
      topped i j a b (no c) d = omega (arith, zeroed i j a b (inl (omega arith)))
      topped i j a b (yes c) (yes d) = omega (arith, zeroed i j a b (inr d))
      topped i j a b (yes c) (no d) = let s = rows_in w (k + 1) (p.height - k - 1) i j a c (omega arith) in e.run.top (j * w + i) s.0 s.1

-- where fewer rows are left than a ball wants, the next erosion is 0
pub next-gone : (p : Head) (k : ℕ) (src old new : List ℕ) → p.height < 2 * k + 3 → Margin p k src → Filled (λ n. 0) 0 (area p) old new
    → Stepped p src old new 0
next-gone p k src old new h m f = all-zero p src old new f (λ i j a b. none i j a b (dec_le j k))
  where
    none : (i j : ℕ) → i < p.width → j < p.height → Dec (j ≤ k) → lowest_near p.kind (at p src) (cell i j) ≡ 0
    none i j a b (yes c) = fringe-top p k src m i j a b c
    none i j a b (no c) = fringe-bottom p k src m i j a b (omega arith)

-- the places of a later erosion's three stretches, in order and within the target
pub record NextRoom (k w h n : ℕ) : Type 0 where
  pub first : (k - 1) * w ≤ (k + 1) * w
  pub middle : (k + 1) * w ≤ (h - k - 1) * w
  pub last : (h - k - 1) * w ≤ (h - k + 1) * w
  pub all : (h - k + 1) * w ≤ n

pub next-room : (k w h n : ℕ) → 1 ≤ k → 2 * k + 3 ≤ h → h * w ≤ n → NextRoom k w h n
next-room k w h n a c d =
    let one : k - 1 ≤ k + 1 = omega arith in
    let two : k + 1 ≤ h - k - 1 = omega arith in
    let three : h - k - 1 ≤ h - k + 1 = omega arith in
    let four : h - k + 1 ≤ h = omega arith in
    record {
      first = mul-le-mul_right w one;
      middle = mul-le-mul_right w two;
      last = mul-le-mul_right w three;
      all = omega (arith, mul-le-mul_right w four);
    }

-- the run between the zeroed rows has a row before it and a row after it, and one byte more
pub next-interior : (k w h : ℕ) (m : List ℕ) → 1 ≤ k → 1 ≤ w → 2 * k + 3 ≤ h → h * w ≤ length m → Interior w ((k + 1) * w) ((h - k - 1) * w) m
next-interior k w h m a b c d =
    let r = rows-room w k (h - k) h (length m) a (omega arith) (omega arith) d in
    let one : k < k + 1 = omega arith in
    let two : k + 1 < h - k - 1 = omega arith in
    let three : h - k - 1 < h - k = omega arith in
    record {
      under = omega (arith, r.under, row_room w k (k + 1) ((k + 1) * w) one (omega arith));
      ordered = omega (arith, row_room w (k + 1) (h - k - 1) ((h - k - 1) * w) two (omega arith));
      over = omega (arith, r.over, row_room w (h - k - 1) (h - k) ((h - k) * w) three (omega arith));
    }
