-- Laws of maps of two bytes a number: the numbers that their bytes hold, and what a loop that stores numbers leaves of them.
use mathlib.Core.Path.{◌≡◌, refl, sym, ap, ap₂, ◌∙◌, subst}
use mathlib.Core.List.{List, [], ◌∷◌, ◌++◌}
use Prim.Native.Nat.{ℕ, zero, suc, ◌+◌, ◌*◌, ◌-◌, ◌/◌, ◌%◌, ◌≤◌, ◌<◌}
use native.Mathlib.Omega.{arith}
use native.Mathlib.Decide.{dec_le}
use lib.ListN.{length, get_or, drop, set, length-set, length-append, length-drop, get_or-eq_default, get_or-append}
use lib.Seq.{ext_get_or, get_or-set_same, get_or-set_other, get_or-append-add, get_or-drop}
use Rattle.geometry.specs.declared.Kind.{Kind}
use Rattle.buffers.specs.Fill.{Filled}
use Rattle.row_arrays.specs.Rows.{margin, widest_row, Margins, joined_row, with_columns}
use Rattle.row_arrays.proofs.Rows.{merged}
use Rattle.wide_rows.specs.Wide.{wide_map, wide_numbers, wide_wall, wide_reach, WideFilled, WideMerged}

-- ---- the numbers of rows of 16-bit numbers

-- What they must be: the steps along a row reach past every column, and the number of a wall, less a distance on the plate, is left above 0.
pub record WideFits : Type 0 where
  pub reached : widest_row ≤ wide_reach
  pub above : widest_row < wide_wall

pub wide_fits : WideFits
wide_fits = record { reached = omega arith; above = omega arith }

-- ---- the numbers that bytes hold

pub record Halved (bytes : List ℕ) : Type 0 where
  pub within : 2 * length (wide_numbers bytes) ≤ length bytes
  pub all : length bytes ≤ 2 * length (wide_numbers bytes) + 1

pub length-wide : (bytes : List ℕ) → Halved bytes
unfolding wide_numbers
length-wide [] = record { within = omega arith; all = omega arith }
length-wide (a ∷ []) = record { within = omega arith; all = omega arith }
length-wide (a ∷ b ∷ more) = let h = length-wide more in record { within = omega (arith, h.within); all = omega (arith, h.all) }

pub get_or-wide : (bytes : List ℕ) (n : ℕ) → 2 * n + 1 < length bytes → get_or (wide_numbers bytes) n 0 ≡ 256 * get_or bytes (2 * n) 0 + get_or bytes (2 * n + 1) 0
unfolding wide_numbers
get_or-wide [] n h = absurd (omega arith)
get_or-wide (a ∷ []) n h = absurd (omega arith)
get_or-wide (a ∷ b ∷ more) zero h = refl
get_or-wide (a ∷ b ∷ more) (suc n) h =
    let i : 2 * suc n ≡ suc (suc (2 * n)) = omega arith in
    let j : 2 * suc n + 1 ≡ suc (suc (2 * n + 1)) = omega arith in
    get_or-wide more n (omega arith)
    ∙ ap₂ (λ (k l : ℕ). 256 * get_or (a ∷ b ∷ more) k 0 + get_or (a ∷ b ∷ more) l 0) (sym i) (sym j)

-- room for numbers is room for twice as many bytes
pub wide_room : (bytes : List ℕ) (k : ℕ) → k ≤ length (wide_numbers bytes) → 2 * k ≤ length bytes
wide_room bytes k h = omega (arith, (length-wide bytes).within)

pub room-wide : (bytes : List ℕ) (k : ℕ) → 2 * k ≤ length bytes → k ≤ length (wide_numbers bytes)
room-wide bytes k h = omega (arith, (length-wide bytes).all)

-- bytes of one length hold equally many numbers
pub wide-same : (old new : List ℕ) → length new ≡ length old → length (wide_numbers new) ≡ length (wide_numbers old)
wide-same old new e =
    let a = length-wide old in
    let b = length-wide new in
    omega (arith, a.within, a.all, b.within, b.all)

-- where two bytes are the same, so is their number
number_same : (old new : List ℕ) (n : ℕ) → length new ≡ length old → get_or new (2 * n) 0 ≡ get_or old (2 * n) 0
    → get_or new (2 * n + 1) 0 ≡ get_or old (2 * n + 1) 0 → get_or (wide_numbers new) n 0 ≡ get_or (wide_numbers old) n 0
number_same old new n e h l = go (dec_le (2 * n + 2) (length old))
  where
    go : Dec (2 * n + 2 ≤ length old) → get_or (wide_numbers new) n 0 ≡ get_or (wide_numbers old) n 0
    go (yes d) = get_or-wide new n (omega arith) ∙ ap₂ (λ (i j : ℕ). 256 * i + j) h l ∙ sym (get_or-wide old n (omega arith))
    go (no d) =
        let a : length (wide_numbers new) ≤ n = omega (arith, (length-wide new).within) in
        let b : length (wide_numbers old) ≤ n = omega (arith, (length-wide old).within) in
        get_or-eq_default (wide_numbers new) 0 a ∙ sym (get_or-eq_default (wide_numbers old) 0 b)

-- ---- storing numbers

whole : (n high low : ℕ) → high ≡ n / 256 → low ≡ n % 256 → 256 * high + low ≡ n
whole n high low h l = omega arith

module _ (f : ℕ → ℕ) (from : ℕ) where
  pub wide-none : (old : List ℕ) → WideFilled f from from old old
  wide-none old =
      record {
        same = refl;
        high = λ n h l. absurd (omega arith);
        low = λ n h l. absurd (omega arith);
        under = λ n h. refl;
        over = λ n h. refl;
      }

  -- one number more
  pub wide-more : (to a b : ℕ) (old mid : List ℕ) → WideFilled f from to old mid → from ≤ to → 2 * (to + 1) ≤ length old → a ≡ f to / 256 → b ≡ f to % 256
      → WideFilled f from (to + 1) old (set (set mid (2 * to) a) (2 * to + 1) b)
  wide-more to a b old mid h g room e d =
      record {
        same = length-set (set mid (2 * to) a) (2 * to + 1) b ∙ length-set mid (2 * to) a ∙ h.same;
        high = λ n l u. high-at n l u (dec_le to n);
        low = λ n l u. low-at n l u (dec_le to n);
        under = λ n l. apart n (omega arith) (omega arith) ∙ h.under n l;
        over = λ n l. apart n (omega arith) (omega arith) ∙ h.over n (omega arith);
      }
    where
      new : List ℕ
      new = set (set mid (2 * to) a) (2 * to + 1) b

      apart : (n : ℕ) → (n ≡ 2 * to → ⊥) → (n ≡ 2 * to + 1 → ⊥) → get_or new n 0 ≡ get_or mid n 0
      apart n u v = get_or-set_other (set mid (2 * to) a) (2 * to + 1) n b 0 v ∙ get_or-set_other mid (2 * to) n a 0 u

      high-at : (n : ℕ) → from ≤ n → n < to + 1 → Dec (to ≤ n) → get_or new (2 * n) 0 ≡ f n / 256
      high-at n l u (yes k) =
          let i : n ≡ to = omega arith in
          rw i (get_or-set_other (set mid (2 * to) a) (2 * to + 1) (2 * to) b 0 (omega arith) ∙ get_or-set_same mid (2 * to) a 0 (omega (arith, h.same)) ∙ e)
      high-at n l u (no k) = apart (2 * n) (omega arith) (omega arith) ∙ h.high n l (omega arith)

      low-at : (n : ℕ) → from ≤ n → n < to + 1 → Dec (to ≤ n) → get_or new (2 * n + 1) 0 ≡ f n % 256
      low-at n l u (yes k) =
          let i : n ≡ to = omega arith in
          rw i (get_or-set_same (set mid (2 * to) a) (2 * to + 1) b 0 (omega (arith, h.same, length-set mid (2 * to) a)) ∙ d)
      low-at n l u (no k) = apart (2 * n + 1) (omega arith) (omega arith) ∙ h.low n l (omega arith)

  -- at a loop's end the number reached is the number meant
  pub wide-end : (n to : ℕ) (old new : List ℕ) → n ≤ to → to ≤ n → WideFilled f from n old new → WideFilled f from to old new
  wide-end n to old new h l e = let k : n ≡ to = omega arith in subst (λ (j : ℕ). WideFilled f from j old new) k e

  -- the numbers that a filled map holds
  pub wide-filled : (to : ℕ) (old new : List ℕ) → 2 * to ≤ length old → WideFilled f from to old new → Filled f from to (wide_numbers old) (wide_numbers new)
  wide-filled to old new room h =
      record {
        same = wide-same old new h.same;
        inside = λ n a b. get_or-wide new n (omega (arith, h.same)) ∙ whole (f n) (get_or new (2 * n) 0) (get_or new (2 * n + 1) 0) (h.high n a b) (h.low n a b);
        under = λ n a. number_same old new n h.same (h.under (2 * n) (omega arith)) (h.under (2 * n + 1) (omega arith));
        over = λ n a. number_same old new n h.same (h.over (2 * n) (omega arith)) (h.over (2 * n + 1) (omega arith));
      }

  -- a number that is not stored yet is that of the old bytes
  pub wide-next : (to v : ℕ) (old mid : List ℕ) → WideFilled f from to old mid → 2 * (to + 1) ≤ length old
      → v ≡ 256 * get_or mid (2 * to) 0 + get_or mid (2 * to + 1) 0 → v ≡ get_or (wide_numbers old) to 0
  wide-next to v old mid h room e =
      e
      ∙ ap₂ (λ (i j : ℕ). 256 * i + j) (h.over (2 * to) (omega arith)) (h.over (2 * to + 1) (omega arith))
      ∙ sym (get_or-wide old to (omega arith))

  -- the same with other numbers that agree
  pub wide-as : (g : ℕ → ℕ) (to : ℕ) (old new : List ℕ) → WideFilled f from to old new → ((n : ℕ) → from ≤ n → n < to → f n ≡ g n)
      → WideFilled g from to old new
  wide-as g to old new h e =
      record {
        same = h.same;
        high = λ n a b. h.high n a b ∙ ap (λ (v : ℕ). v / 256) (e n a b);
        low = λ n a b. h.low n a b ∙ ap (λ (v : ℕ). v % 256) (e n a b);
        under = h.under;
        over = h.over;
      }

-- ---- the bytes of numbers

pub length-map : (ns : List ℕ) → length (wide_map ns) ≡ 2 * length ns
unfolding wide_map
length-map [] = refl
length-map (n ∷ more) = omega (arith, length-map more)

pub map-high : (ns : List ℕ) (n : ℕ) → get_or (wide_map ns) (2 * n) 0 ≡ get_or ns n 0 / 256
unfolding wide_map
map-high [] n = refl
map-high (a ∷ more) zero = refl
map-high (a ∷ more) (suc n) =
    let i : 2 * suc n ≡ suc (suc (2 * n)) = omega arith in
    ap (λ (k : ℕ). get_or (a / 256 ∷ a % 256 ∷ wide_map more) k 0) i ∙ map-high more n

pub map-low : (ns : List ℕ) (n : ℕ) → get_or (wide_map ns) (2 * n + 1) 0 ≡ get_or ns n 0 % 256
unfolding wide_map
map-low [] n = refl
map-low (a ∷ more) zero = refl
map-low (a ∷ more) (suc n) =
    let i : 2 * suc n + 1 ≡ suc (suc (2 * n + 1)) = omega arith in
    ap (λ (k : ℕ). get_or (a / 256 ∷ a % 256 ∷ wide_map more) k 0) i ∙ map-low more n

-- what a buffer that starts with a map of numbers holds, byte for byte
pub wide-bytes : (ns old new : List ℕ) → 2 * length ns ≤ length old → WideFilled (λ n. get_or ns n 0) 0 (length ns) old new
    → new ≡ wide_map ns ++ drop (length (wide_map ns)) old
wide-bytes ns old new room h = ext_get_or 0 new (wide_map ns ++ drop (length (wide_map ns)) old) sizes (λ i l. entry i (dec_le (2 * length ns) i) (dec_le 1 (i % 2)))
  where
    sizes : length new ≡ length (wide_map ns ++ drop (length (wide_map ns)) old)
    sizes = omega (
      arith,
      h.same,
      length-append (wide_map ns) (drop (length (wide_map ns)) old),
      length-drop (length (wide_map ns)) old,
      length-map ns,
    )

    -- a byte of the map
    early : (i : ℕ) → i < 2 * length ns → get_or new i 0 ≡ get_or (wide_map ns) i 0 → get_or new i 0 ≡ get_or (wide_map ns ++ drop (length (wide_map ns)) old) i 0
    early i l e = e ∙ sym (get_or-append (wide_map ns) (drop (length (wide_map ns)) old) 0 i (omega (arith, length-map ns)))

    entry : (i : ℕ) → Dec (2 * length ns ≤ i) → Dec (1 ≤ i % 2) → get_or new i 0 ≡ get_or (wide_map ns ++ drop (length (wide_map ns)) old) i 0
    entry i (yes a) d =
        let k : i ≡ length (wide_map ns) + (i - length (wide_map ns)) = omega (arith, length-map ns) in
        h.over i a
        ∙ ap (λ (j : ℕ). get_or old j 0) k
        ∙ sym (get_or-drop (length (wide_map ns)) old (i - length (wide_map ns)) 0)
        ∙ sym (get_or-append-add (wide_map ns) (drop (length (wide_map ns)) old) (i - length (wide_map ns)) 0)
        ∙ ap (λ (j : ℕ). get_or (wide_map ns ++ drop (length (wide_map ns)) old) j 0) (sym k)
    entry i (no a) (yes d) =
        let k : i ≡ 2 * (i / 2) + 1 = omega arith in
        early i (omega arith)
        (ap (λ (j : ℕ). get_or new j 0) k
        ∙ h.low (i / 2) (omega arith) (omega arith)
        ∙ sym (map-low ns (i / 2))
        ∙ ap (λ (j : ℕ). get_or (wide_map ns) j 0) (sym k))
    entry i (no a) (no d) =
        let k : i ≡ 2 * (i / 2) = omega arith in
        early i (omega arith)
        (ap (λ (j : ℕ). get_or new j 0) k
        ∙ h.high (i / 2) (omega arith) (omega arith)
        ∙ sym (map-high ns (i / 2))
        ∙ ap (λ (j : ℕ). get_or (wide_map ns) j 0) (sym k))

-- ---- the row beside

-- the joined row, stored and left as the next row's row beside
pub wide-merged : (kd : Kind) (w from : ℕ) (beside beside' row row' out out' : List ℕ) → w ≤ widest_row → Margins w beside → Margins w row → 2 * (from + w) ≤ length out
    → Filled (joined_row kd beside row) margin (margin + w) row row' → WideFilled (λ n. get_or row' (margin + (n - from)) 0) from (from + w) out out'
    → beside' ≡ with_columns w row' beside → WideMerged kd w from beside beside' row row' out out'
wide-merged kd w from beside beside' row row' out out' narrow m z room r o b =
    record {
      numbers = merged kd w from beside beside' row row' (wide_numbers out) (wide_numbers out') narrow m z r
          (wide-filled (λ n. get_or row' (margin + (n - from)) 0) from (from + w) out out' room o) b;
      same = o.same;
      over = o.over;
    }
