-- Laws of regions: later erosions, residues and plunges of a plate are those of a region outside of which an erosion is 0, moved; and how
-- regions are made, from the whole plate, from a later erosion, and from a smaller rectangle.
use mathlib.Core.Path.{◌≡◌, refl, sym, ap, ap₂, ◌∙◌, fun_ext}
use mathlib.Core.Logic.{◌⊎◌, inl, inr}
use mathlib.Core.Bool.{Bool, true, false, cond}
use mathlib.Core.List.{List, [], ◌∷◌, ◌++◌, map, map-append}
use Prim.Native.Nat.{ℕ, zero, suc, ◌+◌, ◌*◌, ◌-◌, ◌≤◌, ◌<◌}
use native.Mathlib.Omega.{arith}
use native.Mathlib.Decide.{dec_le}
use native.Mathlib.Nat.{add-zero, add-suc, add_comm}
use lib.Dec.{ltb}
use lib.IntN.{ℤ, pos, suc_ℤ, pred_ℤ, ◌+ℤ◌, ◌-ℤ◌, suc_ℤ-+ℤ, pred_ℤ-+ℤ, +ℤ_idr, +ℤ_assoc, +ℤ-neg_ℤ_cancel, -ℤ-+ℤ_cancel}
use lib.ListN.{get_or}
use Rattle.geometry.specs.declared.Kind.{Kind}
use Rattle.geometry.specs.declared.Kind.TheVariants.{Diamond, Square}
use Rattle.geometry.specs.declared.Head.{Head}
use Rattle.geometry.specs.Lists.{gather, lowest, highest}
use Rattle.geometry.specs.Plane.{Cell, cell, neighbours}
use Rattle.geometry.specs.Plate.{On, at}
use Rattle.theory.specs.Erosion.{erosion, highest_near, residue}
use Rattle.theory.specs.Climbed.{Bare}
use Rattle.theory.specs.Near.{lowest_near}
use Rattle.theory.specs.Listing.{listed_at, listing}
use Rattle.theory.proofs.Lists.{gather-same}
use Rattle.theory.proofs.Plate.{on-or-off, at-cell}
use Rattle.theory.proofs.Erosion.{erosion-zero, erosion-step, erosion-off}
use Rattle.residue_series.specs.Plunges.{listed_reach}
use Rattle.residue_series.proofs.Gather.{gather-on, gather_none, gather-stops, gather-from}
use Rattle.residue_series.proofs.Plunges.{listed-none}
use Rattle.climb.specs.Regions.{translated, moved, RegionOf}

-- ---- translated cells

-- a function on the neighbours of a translated cell, and on the translated neighbours
near-translated : (dx dy : ℕ) (g : Cell → ℕ) (kd : Kind) (c : Cell)
    → map (λ d. g (translated dx dy d)) (neighbours kd c) ≡ map g (neighbours kd (translated dx dy c))
near-translated dx dy g kd c = go kd
  where
    x : ℤ
    x = c.col +ℤ pos dx

    y : ℤ
    y = c.row +ℤ pos dy

    w : pred_ℤ c.col +ℤ pos dx ≡ pred_ℤ x
    w = pred_ℤ-+ℤ c.col (pos dx)

    e : suc_ℤ c.col +ℤ pos dx ≡ suc_ℤ x
    e = suc_ℤ-+ℤ c.col (pos dx)

    n : pred_ℤ c.row +ℤ pos dy ≡ pred_ℤ y
    n = pred_ℤ-+ℤ c.row (pos dy)

    s : suc_ℤ c.row +ℤ pos dy ≡ suc_ℤ y
    s = suc_ℤ-+ℤ c.row (pos dy)

    go : (kd : Kind) → map (λ d. g (translated dx dy d)) (neighbours kd c) ≡ map g (neighbours kd (translated dx dy c))
    go Diamond =
        λ i. g (record { col = x; row = n i }) ∷ g (record { col = w i; row = y }) ∷ g (record { col = e i; row = y }) ∷ g (record { col = x; row = s i }) ∷ []
    go Square =
        λ i.
        g (record { col = w i; row = n i }) ∷ g (record { col = x; row = n i }) ∷ g (record { col = e i; row = n i })
        ∷ g (record { col = w i; row = y }) ∷ g (record { col = e i; row = y })
        ∷ g (record { col = w i; row = s i }) ∷ g (record { col = x; row = s i }) ∷ g (record { col = e i; row = s i }) ∷ []

-- each cell is a translated one
abbrev back : ℕ → ℕ → Cell → Cell
back dx dy c = record { col = c.col -ℤ pos dx; row = c.row -ℤ pos dy }

translated-back : (dx dy : ℕ) (c : Cell) → translated dx dy (back dx dy c) ≡ c
translated-back dx dy c = λ i. record { col = -ℤ-+ℤ_cancel c.col (pos dx) i; row = -ℤ-+ℤ_cancel c.row (pos dy) i }

-- and of no other cell
translated-one : (dx dy : ℕ) (c d : Cell) → translated dx dy c ≡ translated dx dy d → c ≡ d
translated-one dx dy c d e =
    λ i. record { col = one (pos dx) c.col d.col (ap (λ o. o.col) e) i; row = one (pos dy) c.row d.row (ap (λ o. o.row) e) i }
  where
    one : (k a b : ℤ) → a +ℤ k ≡ b +ℤ k → a ≡ b
    one k a b e = sym (+ℤ-neg_ℤ_cancel a k) ∙ ap (λ z. z -ℤ k) e ∙ +ℤ-neg_ℤ_cancel b k

translated-none : (c : Cell) → translated 0 0 c ≡ c
translated-none c = λ i. record { col = +ℤ_idr c.col i; row = +ℤ_idr c.row i }

translated-twice : (dx dy x y : ℕ) (c : Cell) → translated dx dy (translated x y c) ≡ translated (dx + x) (dy + y) c
translated-twice dx dy x y c = λ i. record { col = twice c.col dx x i; row = twice c.row dy y i }
  where
    twice : (a : ℤ) (k j : ℕ) → a +ℤ pos j +ℤ pos k ≡ a +ℤ pos (k + j)
    twice a k j = +ℤ_assoc a (pos j) (pos k) ∙ ap (λ (n : ℕ). a +ℤ pos n) (add_comm j k)

same-cell : (x y i j : ℕ) → cell x y ≡ cell i j → (x ≡ i) × (y ≡ j)
same-cell x y i j e = let g : pos x ≡ pos i = ap (λ c. c.col) e in let h : pos y ≡ pos j = ap (λ c. c.row) e in (cc, cc)

-- ---- gathered lists

-- each list mapped
pub gather-map : {A B : Type 0} (f : A → B) (n i : ℕ) (g : ℕ → List A) → map f (gather n i g) ≡ gather n i (λ j. map f (g j))
gather-map f zero i g = refl
gather-map f (suc n) i g = map-append f (g i) (gather n (suc i) g) ∙ ap (λ l. map f (g i) ++ l) (gather-map f n (suc i) g)

-- turns of which only n from one on give something
gather-middle : {A : Type 0} (g : ℕ → List A) (a n total : ℕ) → a + n ≤ total → ((j : ℕ) → j < a → g j ≡ [])
    → ((j : ℕ) → a + n ≤ j → j < total → g j ≡ []) → gather total 0 g ≡ gather n 0 (λ j. g (j + a))
gather-middle g a n total h before after =
    gather-stops g (a + n) total h after ∙ gather-on g a n
    ∙ ap (λ l. l ++ gather n a g) (gather_none g a 0 (λ j b c. before j (omega arith)))
    ∙ gather-from g n a ∙ gather-same n 0 (λ j. g (a + j)) (λ j. g (j + a)) (λ j b c. ap g (add_comm a j))

-- ---- erosions, residues and plunges of a region

module _ (p : Head) (m : List ℕ) (k dx dy : ℕ) (p' : Head) (m' : List ℕ) (r : RegionOf p m k dx dy p' m') where
  -- later erosions of the plate are erosions of the region
  pub region-erosion : (j : ℕ) (c : Cell) → erosion p' m' j c ≡ erosion p m (k + j) (translated dx dy c)
  region-erosion zero c = erosion-zero p' m' c ∙ r.holds c ∙ ap (λ (n : ℕ). erosion p m n (translated dx dy c)) (sym (add-zero k))
  region-erosion (suc j) c =
      erosion-step p' m' j c ∙ ap₂ (λ kd f. lowest_near kd f c) r.kind (fun_ext (region-erosion j))
      ∙ ap (lowest (erosion p m (k + j) (translated dx dy c))) (near-translated dx dy (erosion p m (k + j)) p.kind c)
      ∙ sym (erosion-step p m (k + j) (translated dx dy c)) ∙ ap (λ (n : ℕ). erosion p m n (translated dx dy c)) (sym (add-suc k j))

  -- they are bare together
  pub region-bare : (j : ℕ) → Bare p' m' j → Bare p m (k + j)
  region-bare j z c = sym (region-erosion j (back dx dy c) ∙ ap (erosion p m (k + j)) (translated-back dx dy c)) ∙ z (back dx dy c)

  pub bare-region : (j : ℕ) → Bare p m (k + j) → Bare p' m' j
  bare-region j z c = region-erosion j c ∙ z (translated dx dy c)

  region-residue : (j : ℕ) (c : Cell) → residue p' m' (suc j) c ≡ residue p m (suc (k + j)) (translated dx dy c)
  unfolding residue
  region-residue j c = ap₂ (λ (a b : ℕ). a - b) (region-erosion j c) top
    where
      next : (d : Cell) → erosion p' m' (suc j) d ≡ erosion p m (suc (k + j)) (translated dx dy d)
      next d = region-erosion (suc j) d ∙ ap (λ (n : ℕ). erosion p m n (translated dx dy d)) (add-suc k j)

      top : highest_near p'.kind (erosion p' m' (suc j)) c ≡ highest_near p.kind (erosion p m (suc (k + j))) (translated dx dy c)
      top =
          ap₂ (λ kd f. highest_near kd f c) r.kind (fun_ext next)
          ∙ ap (highest (erosion p m (suc (k + j)) (translated dx dy c))) (near-translated dx dy (erosion p m (suc (k + j))) p.kind c)

  -- the plunges of a cell
  pub region-listed : (i x y : ℕ) → map (moved k dx dy) (listed_at p' m' i x y) ≡ listed_at p m (k + i) (x + dx) (y + dy)
  region-listed i x y =
      go (ltb 0 (residue p' m' (suc i) (cell x y))) (erosion p' m' i (cell x y))
      ∙ ap₂ (λ (a v : ℕ). cond (ltb 0 a) (record { column = x + dx; row = y + dy; reach = record { 0 = k + i }; depth = v } ∷ []) [])
      (region-residue i (cell x y)) (region-erosion i (cell x y))
    where
      go : (t : Bool) (v : ℕ) → map (moved k dx dy) (cond t (record { column = x; row = y; reach = record { 0 = i }; depth = v } ∷ []) [])
          ≡ cond t (record { column = x + dx; row = y + dy; reach = record { 0 = k + i }; depth = v } ∷ []) []
      go true v = refl
      go false v = refl

  -- outside of the region nothing is listed
  region-outside : (i x y : ℕ) → ((u v : ℕ) → u < p'.width → v < p'.height → x ≡ u + dx → y ≡ v + dy → ⊥) → listed_at p m (k + i) x y ≡ []
  region-outside i x y out = listed-none p m (k + i) x y (sym (region-erosion i c ∙ ap (erosion p m (k + i)) is) ∙ go (on-or-off p' c))
    where
      c : Cell
      c = back dx dy (cell x y)

      is : translated dx dy c ≡ cell x y
      is = translated-back dx dy (cell x y)

      go : On p' c ⊎ ((n : List ℕ) → at p' n c ≡ 0) → erosion p' m' i c ≡ 0
      go (inl o) =
          let e = same-cell x y (o.column + dx) (o.row + dy) (sym is ∙ ap (translated dx dy) o.is) in
          absurd (out o.column o.row o.left o.upper e.0 e.1)
      go (inr z) = erosion-off p' m' i c z

  -- the plunges of a row, and of a reach
  region-row : (i y : ℕ) → map (moved k dx dy) (gather p'.width 0 (λ x. listed_at p' m' i x y)) ≡ gather p.width 0 (λ x. listed_at p m (k + i) x (y + dy))
  region-row i y =
      gather-map (moved k dx dy) p'.width 0 (λ x. listed_at p' m' i x y)
      ∙ gather-same p'.width 0 _ (λ x. listed_at p m (k + i) (x + dx) (y + dy)) (λ x a b. region-listed i x y)
      ∙ sym (gather-middle (λ x. listed_at p m (k + i) x (y + dy)) dx p'.width p.width r.wide
      (λ x a. region-outside i x (y + dy) (λ u v b c e g. omega (arith, a, e)))
      (λ x a h. region-outside i x (y + dy) (λ u v b c e g. omega (arith, a, b, e))))

  pub region-reach : (i : ℕ) → map (moved k dx dy) (listed_reach p' m' i) ≡ listed_reach p m (k + i)
  region-reach i =
      gather-map (moved k dx dy) p'.height 0 (λ y. gather p'.width 0 (λ x. listed_at p' m' i x y))
      ∙ gather-same p'.height 0 _ (λ y. gather p.width 0 (λ x. listed_at p m (k + i) x (y + dy))) (λ y a b. region-row i y)
      ∙ sym (gather-middle (λ y. gather p.width 0 (λ x. listed_at p m (k + i) x y)) dy p'.height p.height r.high
      (λ y a. gather_none (λ x. listed_at p m (k + i) x y) p.width 0 (λ x f h. region-outside i x y (λ u v b c e g. omega (arith, a, g))))
      (λ y a l. gather_none (λ x. listed_at p m (k + i) x y) p.width 0 (λ x f h. region-outside i x y (λ u v b c e g. omega (arith, a, c, g)))))

  -- the plunges of all reaches
  pub region-reaches : (j : ℕ) → gather (k + j) 0 (listed_reach p m) ≡ gather k 0 (listed_reach p m) ++ map (moved k dx dy) (gather j 0 (listed_reach p' m'))
  region-reaches j =
      gather-on (listed_reach p m) k j
      ∙ ap (λ l. gather k 0 (listed_reach p m) ++ l)
      (gather-from (listed_reach p m) j k ∙ gather-same j 0 _ (λ i. map (moved k dx dy) (listed_reach p' m' i)) (λ i a b. sym (region-reach i))
      ∙ sym (gather-map (moved k dx dy) j 0 (listed_reach p' m')))

  pub region-listing : (limit : ℕ) → k ≤ limit
      → listing p limit m ≡ gather k 0 (listed_reach p m) ++ map (moved k dx dy) (listing p' (limit - k) m')
  unfolding listing
  region-listing limit h =
      let e : limit ≡ k + (limit - k) = omega arith in
      ap (λ (n : ℕ). gather n 0 (listed_reach p m)) e ∙ region-reaches (limit - k)

  -- ---- how regions are made

  -- the region holds a later erosion
  pub region-later : (j : ℕ) (s : List ℕ) → ((c : Cell) → at p' s c ≡ erosion p' m' j c) → RegionOf p m (k + j) dx dy p' s
  region-later j s h = record { kind = r.kind; wide = r.wide; high = r.high; holds = λ c. h c ∙ region-erosion j c }

-- the whole plate is a region
pub region-whole : (p : Head) (m s : List ℕ) → ((c : Cell) → at p s c ≡ at p m c) → RegionOf p m 0 0 0 p s
region-whole p m s h =
    record {
      kind = refl;
      wide = omega arith;
      high = omega arith;
      holds = λ c. h c ∙ sym (erosion-zero p m c) ∙ ap (erosion p m 0) (sym (translated-none c));
    }

-- a smaller rectangle of a region whose map is 0 outside of it
module _ (p : Head) (m : List ℕ) (k dx dy : ℕ) (p' : Head) (s : List ℕ) (r : RegionOf p m k dx dy p' s) (column row : ℕ) (p'' : Head) (s'' : List ℕ)
    (kind : p''.kind ≡ p'.kind) (wide : column + p''.width ≤ p'.width) (high : row + p''.height ≤ p'.height)
    (west : (x y : ℕ) → x < p'.width → y < p'.height → x < column → get_or s (y * p'.width + x) 0 ≡ 0)
    (east : (x y : ℕ) → x < p'.width → y < p'.height → column + p''.width ≤ x → get_or s (y * p'.width + x) 0 ≡ 0)
    (north : (x y : ℕ) → x < p'.width → y < p'.height → y < row → get_or s (y * p'.width + x) 0 ≡ 0)
    (south : (x y : ℕ) → x < p'.width → y < p'.height → row + p''.height ≤ y → get_or s (y * p'.width + x) 0 ≡ 0)
    (crop : (x y : ℕ) → x < p''.width → y < p''.height → get_or s'' (y * p''.width + x) 0 ≡ get_or s ((y + row) * p'.width + (x + column)) 0) where
  -- where the rectangle's map is 0, so is the region's
  blank : (c : Cell) → at p'' s'' c ≡ 0 → (x y : ℕ) → x < p'.width → y < p'.height → translated column row c ≡ cell x y
      → Dec (column ≤ x) → Dec (column + p''.width ≤ x) → Dec (row ≤ y) → Dec (row + p''.height ≤ y) → get_or s (y * p'.width + x) 0 ≡ 0
  blank c z x y a b e (no f) _ _ _ = west x y a b (omega arith)
  blank c z x y a b e (yes f) (yes g) _ _ = east x y a b g
  blank c z x y a b e (yes f) (no g) (no h) _ = north x y a b (omega arith)
  blank c z x y a b e (yes f) (no g) (yes h) (yes l) = south x y a b l
  blank c z x y a b e (yes f) (no g) (yes h) (no l) =
      let i : x - column + column ≡ x = omega arith in
      let j : y - row + row ≡ y = omega arith in
      let u : x - column < p''.width = omega arith in
      let v : y - row < p''.height = omega arith in
      let d : c ≡ cell (x - column) (y - row) = translated-one column row c (cell (x - column) (y - row)) (e ∙ sym (ap₂ cell i j)) in
      sym (ap₂ (λ (o q : ℕ). get_or s (q * p'.width + o) 0) i j) ∙ sym (crop (x - column) (y - row) u v)
      ∙ sym (at-cell p'' s'' (x - column) (y - row) u v) ∙ ap (at p'' s'') (sym d) ∙ z

  cropped : (c : Cell) → at p'' s'' c ≡ at p' s (translated column row c)
  cropped c = go (on-or-off p'' c) (on-or-off p' (translated column row c))
    where
      go : On p'' c ⊎ ((n : List ℕ) → at p'' n c ≡ 0) → On p' (translated column row c) ⊎ ((n : List ℕ) → at p' n (translated column row c) ≡ 0)
          → at p'' s'' c ≡ at p' s (translated column row c)
      go (inl o) _ =
          ap (at p'' s'') o.is ∙ at-cell p'' s'' o.column o.row o.left o.upper ∙ crop o.column o.row o.left o.upper
          ∙ sym (at-cell p' s (o.column + column) (o.row + row) (omega (arith, o.left)) (omega (arith, o.upper)))
          ∙ ap (λ d. at p' s (translated column row d)) (sym o.is)
      go (inr z) (inl o) =
          z s'' ∙ sym (ap (at p' s) o.is ∙ at-cell p' s o.column o.row o.left o.upper
          ∙ blank c (z s'') o.column o.row o.left o.upper o.is (dec_le column o.column) (dec_le (column + p''.width) o.column)
          (dec_le row o.row) (dec_le (row + p''.height) o.row))
      go (inr z) (inr t) = z s'' ∙ sym (t s)

  pub region-cropped : RegionOf p m k (dx + column) (dy + row) p'' s''
  region-cropped =
      record {
        kind = kind ∙ r.kind;
        wide = omega (arith, wide, r.wide);
        high = omega (arith, high, r.high);
        holds = λ c. cropped c ∙ r.holds (translated column row c) ∙ ap (erosion p m k) (translated-twice dx dy column row c);
      }
