-- Windows: a map's number before a column and a row by tests, the nine numbers about a cell are its window,
-- and a window's lowest and highest are those of the map among the cell and its neighbours.
use mathlib.Core.Path.{◌≡◌, refl, ap, ap₂, ◌∙◌}
use mathlib.Core.Bool.{cond}
use mathlib.Core.List.{List, [], ◌∷◌, map}
use Prim.Native.Nat.{ℕ, zero, suc, ◌+◌, ◌*◌, ◌-◌, ◌≤◌, ◌<◌, min, max}
use native.Mathlib.Nat.{lt_of_lt_of_le, mul-le-mul}
use native.Mathlib.Numerals.{sub-one, towards_suc}
use native.Mathlib.Omega.{arith}
use borrow.Author.Tests.{lt-ltb, ne_eqb}
use lib.Arith.{digits_lt}
use lib.Dec.{eqb, ltb}
use lib.ListN.{get_or}
use Rattle.geometry.specs.declared.Kind.{Kind}
use Rattle.geometry.specs.declared.Kind.TheVariants.{Diamond, Square}
use Rattle.geometry.specs.declared.Head.{Head}
use Rattle.geometry.specs.Lists.{lowest, highest}
use Rattle.geometry.specs.Plane.{Cell, cell, neighbours}
use Rattle.geometry.specs.Plate.{at}
use Rattle.window.specs.Windows.{window_of, window_min, window_max, around}
use Rattle.window.specs.Places.{before, window_in}

-- three numbers, or three rows, from what each of them is
pub three : {A : Type 0} {a b c a' b' c' : A} → a ≡ a' → b ≡ b' → c ≡ c' → ◌≡◌ {A = List A} (a ∷ b ∷ c ∷ []) (a' ∷ b' ∷ c' ∷ [])
three p q r = cc

-- a cell's place in a flat map, on a plate that is at most k wide and high
pub place-below : {y h x w k : ℕ} → y < h → x < w → h ≤ k → w ≤ k → y * w + x < k * k
place-below l d a b = lt_of_lt_of_le (digits_lt l d) (mul-le-mul a b)

module _ (p : Head) (m : List ℕ) where
  -- the number at column i - 1 and row j - 1: 0 left of the plate, above it, right of it and under it
  pub before-is : (i j : ℕ)
      → at p m (before i j)
      ≡ cond (eqb i 0) 0
      (cond (eqb j 0) 0
      (cond (ltb (i - 1) p.width)
      (cond (ltb (j - 1) p.height) (get_or m ((j - 1) * p.width + (i - 1)) 0) 0)
      0))
  before-is zero zero = refl
  before-is zero (suc j) = refl
  before-is (suc i) zero = simp (ne_eqb (suc i) 0 (omega arith))
  before-is (suc i) (suc j) = simp (ne_eqb (suc i) 0 (omega arith), ne_eqb (suc j) 0 (omega arith), sub-one)

  -- the nine numbers before and after a cell's column and row are its window
  pub window-is : (x y : ℕ)
      → ◌≡◌ {A = List (List ℕ)}
      ((at p m (before x y) ∷ at p m (before (x + 1) y) ∷ at p m (before (x + 2) y) ∷ [])
      ∷ (at p m (before x (y + 1)) ∷ at p m (before (x + 1) (y + 1)) ∷ at p m (before (x + 2) (y + 1)) ∷ [])
      ∷ (at p m (before x (y + 2)) ∷ at p m (before (x + 1) (y + 2)) ∷ at p m (before (x + 2) (y + 2)) ∷ [])
      ∷ [])
      (window_of p m (cell x y))
  window-is x y = simp towards_suc

  -- three cells of a row side by side, the middle one at place n of the flat map
  row_in : (x y n : ℕ) → suc (suc x) < p.width → y < p.height → n ≡ y * p.width + suc x
      → ◌≡◌ {A = List ℕ}
      (get_or m (n - 1) 0 ∷ get_or m n 0 ∷ get_or m (n + 1) 0 ∷ [])
      (at p m (cell x y) ∷ at p m (cell (suc x) y) ∷ at p m (cell (suc (suc x)) y) ∷ [])
  row_in x y n h l e =
      let here : n - 1 ≡ y * p.width + x = omega arith in
      let there : n + 1 ≡ y * p.width + suc (suc x) = omega arith in
      let a : x < p.width = omega arith in
      let b : suc x < p.width = omega arith in
      simp (lt-ltb _ _ l, lt-ltb _ _ a, lt-ltb _ _ b, lt-ltb _ _ h) (cc)

  -- of a cell that does not touch the edge, the nine bytes about its place are its window
  pub window-interior : (x y : ℕ) → 1 ≤ x → x + 1 < p.width → 1 ≤ y → y + 1 < p.height
      → window_in m p.width (y * p.width + x) ≡ window_of p m (cell x y)
  window-interior zero y a h b l = absurd (omega arith)
  window-interior (suc x) zero a h b l = absurd (omega arith)
  window-interior (suc x) (suc y) a h b l =
      let n = suc y * p.width + suc x in
      cc (
        row_in x y (n - p.width) (omega arith) (omega arith) (omega arith),
        row_in x (suc y) n (omega arith) (omega arith) (omega arith),
        row_in x (suc (suc y)) (n + p.width) (omega arith) (omega arith) (omega arith),
      )

  module _ (c : Cell) where
    around-is : (kd : Kind) → around kd (window_of p m c) ≡ map (at p m) (neighbours kd c)
    around-is Diamond = refl
    around-is Square = refl

    -- a window's lowest number is the map's lowest among the cell and its neighbours
    pub window-min-near : window_min p.kind (window_of p m c) ≡ lowest (at p m c) (map (at p m) (neighbours p.kind c))
    window-min-near = ap (lowest (at p m c)) (around-is p.kind)

    pub window-max-near : window_max p.kind (window_of p m c) ≡ highest (at p m c) (map (at p m) (neighbours p.kind c))
    window-max-near = ap (highest (at p m c)) (around-is p.kind)

  -- so are those of the nine bytes about a cell that does not touch the edge
  module _ (x y : ℕ) (a : 1 ≤ x) (b : x + 1 < p.width) (c : 1 ≤ y) (d : y + 1 < p.height) where
    pub interior-min-near : window_min p.kind (window_in m p.width (y * p.width + x))
        ≡ lowest (at p m (cell x y)) (map (at p m) (neighbours p.kind (cell x y)))
    interior-min-near = ap (window_min p.kind) (window-interior x y a b c d) ∙ window-min-near (cell x y)

    pub interior-max-near : window_max p.kind (window_in m p.width (y * p.width + x))
        ≡ highest (at p m (cell x y)) (map (at p m) (neighbours p.kind (cell x y)))
    interior-max-near = ap (window_max p.kind) (window-interior x y a b c d) ∙ window-max-near (cell x y)

-- f may be taken of numbers in any order and grouping
pub record AnyOrder (f : ℕ → ℕ → ℕ) : Type 0 where
  pub swap : (a b : ℕ) → f a b ≡ f b a
  pub shift : (a b c : ℕ) → f (f a b) c ≡ f a (f b c)

pub of-min : AnyOrder min
of-min = omega arith

pub of-max : AnyOrder max
of-max = omega arith

-- what the calls of an operation on a window's numbers come to
module _ (f : ℕ → ℕ → ℕ) {n s w e : ℕ} where
  pub corners-of : {r t v : ℕ} → v ≡ f r t → r ≡ f n s → t ≡ f w e → v ≡ f (f n s) (f w e)
  corners-of a b c = a ∙ ap₂ f b c

  pub cross-of : {m r t u v : ℕ} → v ≡ f r u → r ≡ f n s → u ≡ f t m → t ≡ f w e → v ≡ f (f n s) (f (f w e) m)
  cross-of {m} a b c d = a ∙ ap₂ f b (c ∙ ap (λ (i : ℕ). f i m) d)

-- a window's numbers as the code compares them, in the definition's order: the middle m, the sides n w e s, the corners a b d g
module _ {f : ℕ → ℕ → ℕ} (o : AnyOrder f) where
  past : (a b c : ℕ) → f a (f b c) ≡ f b (f a c)
  past a b c = cc (o.shift a b c, o.swap a b, o.shift b a c)

  pub cross-in-order : {n w m e s : ℕ} → f (f n s) (f (f w e) m) ≡ f n (f w (f e (f s m)))
  cross-in-order = simp (o.swap, o.shift, past)

  pub nine-in-order : {a n b w m e d s g : ℕ}
      → f (f (f n s) (f (f w e) m)) (f (f a b) (f d g)) ≡ f a (f n (f b (f w (f e (f d (f s (f g m)))))))
  nine-in-order = simp (o.swap, o.shift, past)
