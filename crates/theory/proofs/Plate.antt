-- Laws of plates and maps: a cell is on the plate or every map is 0 there; what a map made from a function holds.
use mathlib.Core.Path.{◌≡◌, refl, sym, ap, ◌∙◌, fun_ext}
use mathlib.Core.Logic.{◌⊎◌, inl, inr}
use mathlib.Core.List.Memᴰ
use mathlib.Core.List.{List, [], ◌∷◌, Memᴰ}
use Prim.Native.Nat.{ℕ, suc, ◌+◌, ◌*◌, ◌/◌, ◌%◌, ◌≤◌, ◌<◌}
use native.Mathlib.Omega.{arith}
use native.Mathlib.Decide.{dec_le}
use native.Mathlib.Nat.{zero-add, div-add-mod', div-lt_iff_lt-mul, mod-lt, mul-zero, eq-zero-or-pos}
use borrow.Author.Tests.{lt-ltb, le-ltb}
use lib.Arith.{digits_lt}
use lib.IntN.{ℤ, pos, negsuc}
use lib.ListN.{length, get_or, take, length-map}
use lib.Seq.{ext_get_or, length-take-le, get_or-take}
use Rattle.geometry.specs.declared.Head.{Head}
use Rattle.geometry.specs.Plane.{Cell, cell, crossing}
use Rattle.geometry.specs.Plate.{On, area, below, cells, framed, at, tabulated}
use Rattle.theory.proofs.Lists.{each_in, gather-out, length-each, get_or-each, crossing-in, crossing-out, length-crossing, get_or-crossing, get_d_map, map_same}

-- ---- whole numbers from 0 on

pub below_in : (n i : ℕ) → i < n → Memᴰ (pos i) (below n)
below_in n i h = each_in pos n 0 i (omega arith) (omega arith)

pub below_out : (n : ℕ) {z : ℤ} → Memᴰ z (below n) → (i : ℕ) × (i < n) × (z ≡ pos i)
below_out n m = let t = gather-out n 0 (λ i. pos i ∷ []) m in (t.0, omega (arith, t.2), only t.3)
  where
    only : {a b : ℤ} → Memᴰ a (b ∷ []) → a ≡ b
    only m = mathlib.Core.List.Memᴰ.eq_of_singleton m

get_or-below : (n i : ℕ) (d : ℤ) → i < n → get_or (below n) i d ≡ pos i
get_or-below n i d h = get_or-each pos d n 0 i h ∙ ap pos (zero-add i)

length-below : (n : ℕ) → length (below n) ≡ n
length-below n = length-each pos n 0

-- a number of the ring's columns or rows: from -1 to n
abbrev pub Edge : ℕ → ℤ → Type 0
Edge n z = (z ≡ negsuc 0) ⊎ ((i : ℕ) × (i ≤ n) × (z ≡ pos i))

edge_in : (n : ℕ) (z : ℤ) → Edge n z → Memᴰ z (negsuc 0 ∷ below (suc n))
edge_in n z (inl e) = Memᴰ.head e
edge_in n z (inr t) = Memᴰ.tail (Memᴰ.cast t.2 (below_in (suc n) t.0 (omega (arith, t.1))))

-- ---- cells on the plate and off it

module _ (p : Head) where
  -- a cell is on the plate, or every map is 0 there
  pub on-or-off : (c : Cell) → On p c ⊎ ((m : List ℕ) → at p m c ≡ 0)
  on-or-off c = go c.col c.row refl refl
    where
      go : (a b : ℤ) → c.col ≡ a → c.row ≡ b → On p c ⊎ ((m : List ℕ) → at p m c ≡ 0)
      go (pos x) (pos y) e g = at-plate (dec_le (suc x) p.width) (dec_le (suc y) p.height)
        where
          at-plate : Dec (suc x ≤ p.width) → Dec (suc y ≤ p.height) → On p c ⊎ ((m : List ℕ) → at p m c ≡ 0)
          at-plate (yes h) (yes l) = inl (record { column = x; row = y; is = λ i. record { col = e i; row = g i }; left = h; upper = l })
          at-plate (yes h) (no l) = inr (λ m. rw (e, g) (let g : p.height ≤ y = omega arith in rw (lt-ltb _ _ h, le-ltb _ _ g)))
          at-plate (no h) d = inr (λ m. rw (e, g) (let g : p.width ≤ x = omega arith in rw (le-ltb _ _ g)))
      go (pos x) (negsuc y) e g = inr (λ m. rw (e, g))
      go (negsuc x) (pos y) e g = inr (λ m. rw (e, g))
      go (negsuc x) (negsuc y) e g = inr (λ m. rw (e, g))

  pub at-cell : (m : List ℕ) (x y : ℕ) → x < p.width → y < p.height → at p m (cell x y) ≡ get_or m (y * p.width + x) 0
  at-cell m x y h l = rw (lt-ltb _ _ h, lt-ltb _ _ l)

  pub on-cell : (x y : ℕ) → x < p.width → y < p.height → On p (cell x y)
  on-cell x y h l = record { column = x; row = y; is = refl; left = h; upper = l }

  -- the cells of the plate are those on it
  pub cells_in : {c : Cell} → On p c → Memᴰ c (cells p)
  unfolding cells
  cells_in o = Memᴰ.cast o.is (crossing-in (below p.width) (below p.height) (below_in p.width o.column o.left)
      (below_in p.height o.row o.upper))

  pub cells_out : {c : Cell} → Memᴰ c (cells p) → On p c
  unfolding cells
  cells_out m =
      let t = crossing-out (below p.width) (below p.height) m in
      let x = below_out p.width t.0 in
      let y = below_out p.height t.1 in
      record { column = x.0; row = y.0; is = λ i. record { col = x.2 i; row = y.2 i }; left = x.1; upper = y.1 }

  pub framed-in : (x y : ℤ) → Edge p.width x → Edge p.height y → Memᴰ (record { col = x; row = y }) (framed p)
  unfolding framed
  framed-in x y h l = crossing-in (negsuc 0 ∷ below (suc p.width)) (negsuc 0 ∷ below (suc p.height)) (edge_in p.width x h) (edge_in p.height y l)

  -- ---- maps made from a function

  cells-length : length (cells p) ≡ area p
  unfolding cells
  cells-length = length-crossing (below p.width) (below p.height) ∙ rw (length-below p.width, length-below p.height)

  cells_at : (d : Cell) (x y : ℕ) → x < p.width → y < p.height → get_or (cells p) (y * p.width + x) d ≡ cell x y
  unfolding cells
  cells_at d x y h l =
      ap (λ (w : ℕ). get_or (crossing (below p.width) (below p.height)) (y * w + x) d) (sym (length-below p.width))
      ∙ get_or-crossing (below p.width) (below p.height) d x y (omega (arith, length-below p.width)) (omega (arith, length-below p.height))
      ∙ (λ i. record { col = get_or-below p.width x d.col h i; row = get_or-below p.height y d.row l i })

  pub length-tabulated : (f : Cell → ℕ) → length (tabulated p f) ≡ area p
  length-tabulated f = length-map (cells p) f ∙ cells-length

  pub get_or-tabulated : (f : Cell → ℕ) (x y : ℕ) → x < p.width → y < p.height → get_or (tabulated p f) (y * p.width + x) 0 ≡ f (cell x y)
  get_or-tabulated f x y h l =
      get_d_map f (cells p) (y * p.width + x) (cell 0 0) 0 (omega (arith, cells-length, digits_lt l h)) ∙ ap f (cells_at (cell 0 0) x y h l)

  pub at-tabulated : (f : Cell → ℕ) (c : Cell) → On p c → at p (tabulated p f) c ≡ f c
  at-tabulated f c o = rw o.is (at-cell (tabulated p f) o.column o.row o.left o.upper ∙ get_or-tabulated f o.column o.row
      o.left o.upper)

  -- a function that is 0 off the plate is its map, at every cell of the plane
  pub at-tabulated-plane : (f : Cell → ℕ) → ((c : Cell) → ((m : List ℕ) → at p m c ≡ 0) → f c ≡ 0) → (c : Cell) → at p (tabulated p f) c ≡ f c
  at-tabulated-plane f h c = go (on-or-off c)
    where
      go : On p c ⊎ ((m : List ℕ) → at p m c ≡ 0) → at p (tabulated p f) c ≡ f c
      go (inl o) = at-tabulated f c o
      go (inr z) = z (tabulated p f) ∙ sym (h c z)

  pub tabulated-same : (f g : Cell → ℕ) → ((c : Cell) → On p c → f c ≡ g c) → tabulated p f ≡ tabulated p g
  tabulated-same f g h = map_same f g (cells p) (λ c m. h c (cells_out m))

  -- two lists of the plate's length are the same map where they agree at each cell
  pub map-ext : (m n : List ℕ) → length m ≡ area p → length n ≡ area p
      → ((x y : ℕ) → x < p.width → y < p.height → get_or m (y * p.width + x) 0 ≡ get_or n (y * p.width + x) 0) → m ≡ n
  map-ext m n h l e = ext_get_or 0 m n (h ∙ sym l) (λ i g. entry i (omega arith) (eq-zero-or-pos p.width))
    where
      entry : (i : ℕ) → i < area p → (p.width ≡ 0) ⊎ (0 < p.width) → get_or m i 0 ≡ get_or n i 0
      entry i g (inl z) = absurd (omega (arith, ap (λ (w : ℕ). p.height * w) z ∙ mul-zero p.height))
      entry i g (inr w) =
          let hx : i % p.width < p.width = mod-lt i w in
          let hy : i / p.width < p.height = (div-lt_iff_lt-mul w).1 g in
          let k : i / p.width * p.width + i % p.width ≡ i = div-add-mod' i p.width in
          ap (λ (j : ℕ). get_or m j 0) (sym k) ∙ e (i % p.width) (i / p.width) hx hy ∙ ap (λ (j : ℕ). get_or n j 0) k

  -- a map of the depths of a buffer is the buffer's own bytes; those past the plate's say nothing
  pub tabulated-at : (m : List ℕ) → area p ≤ length m → tabulated p (at p m) ≡ take (area p) m
  tabulated-at m h =
      map-ext (tabulated p (at p m)) (take (area p) m) (length-tabulated (at p m)) (length-take-le (area p) m h)
      (λ x y hx hy. get_or-tabulated (at p m) x y hx hy ∙ at-cell m x y hx hy ∙ sym (get_or-take (area p) m (y * p.width + x) 0 (digits_lt hy hx)))

  pub at-prefix : (m n : List ℕ) → take (area p) m ≡ take (area p) n → at p m ≡ at p n
  at-prefix m n e = fun_ext (λ c. go c (on-or-off c))
    where
      go : (c : Cell) → On p c ⊎ ((l : List ℕ) → at p l c ≡ 0) → at p m c ≡ at p n c
      go c (inr z) = z m ∙ sym (z n)
      go c (inl o) =
          let i = o.row * p.width + o.column in
          let h : i < area p = digits_lt o.upper o.left in
          rw o.is
          (at-cell m o.column o.row o.left o.upper ∙ sym (get_or-take (area p) m i 0 h) ∙ ap (λ (l : List ℕ). get_or l i 0) e
          ∙ get_or-take (area p) n i 0 h ∙ sym (at-cell n o.column o.row o.left o.upper))

  -- reliefs that agree at every cell of the plane have the same bytes
  pub at-same-take : (m n : List ℕ) → area p ≤ length m → area p ≤ length n → ((c : Cell) → On p c → at p m c ≡ at p n c) → take (area p) m ≡ take (area p) n
  at-same-take m n h l e = sym (tabulated-at m h) ∙ tabulated-same (at p m) (at p n) e ∙ tabulated-at n l
