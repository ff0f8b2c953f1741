-- Laws of drawing on a box: its plate, the centres on it, and that what is drawn there and spread out is the drawing.
use mathlib.Core.Path.{◌≡◌, sym, ap, ap₂, ◌∙◌, subst}
use mathlib.Core.Bool.{Bool, true}
use mathlib.Core.List.{List, [], ◌∷◌}
use Prim.Native.Nat.{ℕ, ◌+◌, ◌*◌, ◌-◌, ◌≤◌, ◌<◌, max}
use native.Mathlib.Omega.{arith}
use native.Mathlib.Decide.{dec_le}
use native.Mathlib.Nat.{mul-le-mul}
use borrow.Author.Tests.{le-leb, leb-true}
use lib.Dec.{leb}
use lib.IntN.{pos}
use lib.ListN.{length, get_or}
use Rattle.geometry.specs.declared.Kind.{Kind}
use Rattle.geometry.specs.declared.Kind.TheVariants.{Diamond, Square}
use Rattle.geometry.specs.declared.Head.{Head}
use Rattle.geometry.specs.declared.Plunge.{Plunge}
use Rattle.geometry.specs.Lists.{gather}
use Rattle.geometry.specs.Plane.{Cell, cell, gap, dist}
use Rattle.geometry.specs.Plate.{area, at}
use Rattle.geometry.specs.Plunges.{centre}
use Rattle.window.specs.Windows.{window_of}
use Rattle.theory.specs.Erosion.{highest_near}
use Rattle.theory.specs.Listing.{drawn}
use Rattle.theory.proofs.Balls.{col-near, row_near}
use Rattle.refusal.specs.Refusals.{largest_side}
use Rattle.refusal.specs.Sides.{Sides}
use Rattle.buffers.specs.Fill.{Filled, Mapped}
use Rattle.buffers.specs.Margin.{Margin}
use Rattle.bounding_box.specs.declared.Bounds.{Bounds}
use Rattle.bounding_box.specs.Boxes.{Spread}
use Rattle.row_filter.specs.declared.Leaf.TheVariants.{Highest}
use Rattle.row_filter.specs.Filter.{leaf, Filterable}
use Rattle.row_filter.proofs.InPlace.{highest-filtered}
use Rattle.reading.specs.Reading.{nth_plunge, plunges_up_to}
use Rattle.drawing_box.specs.declared.Drawing.{Drawing}
use Rattle.drawing_box.specs.Boxed.{Held, Placeable, part_of, boxed, plunge_in, plunges_on}
use Rattle.drawing_box.proofs.Boxed.{part-sides, placeable-fits}
use Rattle.drawing.specs.Reaches.{deepest, drawn_from}
use Rattle.drawing.specs.Files.{centre_at}
use Rattle.drawing.proofs.Reaches.{le-deepest, deepest-le, drawn-from-zero}
use Rattle.drawing.proofs.Files.{centre-within, index, member}

-- a map can be filtered on a plate that is the same
pub part-filterable : (p p' : Head) (r : ℕ) (m : List ℕ) → p' ≡ p → Sides p → area p ≤ length m → r ≤ largest_side → Margin p (r + 1) m → Filterable p' r m
part-filterable p p' r m e sides long edge margin =
    subst (λ (p : Head). Filterable p r m) (sym e) (record { sides = sides; long = long; edge = edge; zeros = λ h. margin })

-- a pass for the highest on a plate leaves the highest among each cell and its neighbours on a plate that is the same
pub filtered-part : (p p' : Head) (old new : List ℕ) → p' ≡ p → Mapped p' (λ c. leaf Highest p'.kind (window_of p' old c)) old new
    → Mapped p (highest_near p.kind (at p old)) old new
filtered-part p p' old new e m =
    highest-filtered p old new (subst (λ (p : Head). Mapped p (λ c. leaf Highest p.kind (window_of p old c)) old new) e m)

-- ---- distances from a box

gap-boxed : (l a x : ℕ) → l ≤ a → gap (pos (a - l)) (pos x) ≡ gap (pos a) (pos (x + l))
gap-boxed l a x h = omega arith

dist-boxed : (kd : Kind) (b : Bounds) (q : Plunge) → Held b q → (x y : ℕ)
    → dist kd (centre (boxed b q)) (cell x y) ≡ dist kd (centre q) (cell (x + b.column) (y + b.row))
dist-boxed Diamond b q h x y =
    ap₂ (λ (m n : ℕ). m + n) (gap-boxed b.column q.column x (omega (arith, h.west))) (gap-boxed b.row q.row y (omega (arith, h.north)))
dist-boxed Square b q h x y =
    ap₂ max (gap-boxed b.column q.column x (omega (arith, h.west))) (gap-boxed b.row q.row y (omega (arith, h.north)))

-- of two lists, number by number: what passes of the one passes of the other, as deep at least
deepest-under : (n : ℕ) (f g : ℕ → Plunge) (s t : Plunge → Bool)
    → ((i : ℕ) → i < n → s (f i) ≡ true → (t (g i) ≡ true) × ((f i).depth ≤ (g i).depth))
    → deepest s (gather n 0 (λ i. f i ∷ [])) ≤ deepest t (gather n 0 (λ i. g i ∷ []))
deepest-under n f g s t h =
    deepest-le s (gather n 0 (λ i. f i ∷ [])) _ (λ q m e.
    let k = index n f m in
    let u = h k.0 k.1 (subst (λ (q : Plunge). s q ≡ true) k.2 e) in
    omega (arith, ap (λ (q : Plunge). q.depth) k.2, u.1, le-deepest t (gather n 0 (λ i. g i ∷ [])) (member n g k.0 k.1) u.0))

module _ (d : Drawing) (f : List ℕ) (h : Placeable d f) where
  -- ---- the box as a plate

  pub part-plate : Sides (part_of d)
  part-plate = part-sides d h.sides h.holding.within

  pub part-area : area (part_of d) ≤ area d.head
  part-area =
      let w = h.holding.within in
      let a : d.part.height ≤ d.head.height = omega (arith, w.down) in
      let b : d.part.width ≤ d.head.width = omega (arith, w.across) in
      mul-le-mul a b

  pub centre-told : (i : ℕ) → i < d.count → (q : Plunge) → q ≡ plunge_in d f i → centre_at (part_of d) q < area (part_of d)
  centre-told i l q e =
      subst (λ (q : Plunge). centre_at (part_of d) q < area (part_of d)) (sym e) (centre-within (part_of d) (plunge_in d f i) (placeable-fits d f h i l))

  -- ---- the drawing on the box, and about it

  abbrev kd : Kind
  kd = d.head.kind

  abbrev qs : List Plunge
  qs = plunges_up_to d.count f

  -- a plunge's ball holds a cell, by the test that drawing makes
  abbrev drawn-there : Cell → Plunge → Bool
  drawn-there c q = leb (dist kd (centre q) c + 0) q.reach.0

  there : (c : Cell) (q : Plunge) → drawn-there c q ≡ true → dist kd (centre q) c ≤ q.reach.0
  there c q e = let l : dist kd (centre q) c + 0 ≤ q.reach.0 = leb-true _ _ e in omega arith

  is-there : (c : Cell) (q : Plunge) → dist kd (centre q) c ≤ q.reach.0 → drawn-there c q ≡ true
  is-there c q l = let g : dist kd (centre q) c + 0 ≤ q.reach.0 = omega arith in le-leb _ _ g

  -- the balls on the box draw at a cell what the balls on the plate draw at the cell there
  module _ (x y : ℕ) where
    abbrev on_plate : Cell
    on_plate = cell (x + d.part.column) (y + d.part.row)

    as-far : (i : ℕ) → i < d.count → dist kd (centre (plunge_in d f i)) (cell x y) ≡ dist kd (centre (nth_plunge f i)) on_plate
    as-far i l = dist-boxed kd d.part (nth_plunge f i) (h.holding.balls i l) x y

    boxed-under : drawn_from kd 0 (plunges_on d f) (cell x y) ≤ drawn_from kd 0 qs on_plate
    boxed-under =
        deepest-under d.count (plunge_in d f) (nth_plunge f) (drawn-there (cell x y)) (drawn-there on_plate)
        (λ i l e. (is-there on_plate (nth_plunge f i) (omega (arith, there (cell x y) (plunge_in d f i) e, as-far i l)), omega arith))

    boxed-over : drawn_from kd 0 qs on_plate ≤ drawn_from kd 0 (plunges_on d f) (cell x y)
    boxed-over =
        deepest-under d.count (nth_plunge f) (plunge_in d f) (drawn-there on_plate) (drawn-there (cell x y))
        (λ i l e. (is-there (cell x y) (plunge_in d f i) (omega (arith, there on_plate (nth_plunge f i) e, as-far i l)), omega arith))

    drawn-boxed : drawn_from kd 0 (plunges_on d f) (cell x y) ≡ drawn_from kd 0 qs on_plate
    drawn-boxed = omega (arith, boxed-under, boxed-over)

  -- no ball holds a cell about the box
  drawn-about : (c : Cell) → ((q : Plunge) → Held d.part q → dist kd (centre q) c ≤ q.reach.0 → ⊥) → drawn_from kd 0 qs c ≡ 0
  drawn-about c none =
      omega (
        arith,
        deepest-le (drawn-there c) qs 0 (λ q m e.
            let t = index d.count (nth_plunge f) m in
            absurd (none q (subst (Held d.part) (sym t.2) (h.holding.balls t.0 t.1)) (there c q e))),
      )

  -- what is drawn on the box, where zeros stood, and spread out, is the drawing
  module _ (old zeros drawn' new : List ℕ) (z : Filled (λ k. 0) 0 (area (part_of d)) old zeros)
      (m : Mapped (part_of d) (drawn_from kd 0 (plunges_on d f)) zeros drawn') (s : Spread d.head d.part drawn' new) where
    cell-drawn : (x y : ℕ) → x < d.head.width → y < d.head.height → Dec (d.part.column ≤ x) → Dec (d.part.column + d.part.width ≤ x)
        → Dec (d.part.row ≤ y) → Dec (d.part.row + d.part.height ≤ y) → get_or new (y * d.head.width + x) 0 ≡ drawn_from kd 0 qs (cell x y)
    cell-drawn x y a b (no w) e n o =
        s.bare.west x y a b (omega arith)
        ∙ sym (drawn-about (cell x y) (λ q g l. omega (arith, g.west, col-near kd (centre q) (cell x y))))
    cell-drawn x y a b (yes w) (yes e) n o =
        s.bare.east x y a b e ∙ sym (drawn-about (cell x y) (λ q g l. omega (arith, g.east, col-near kd (centre q) (cell x y))))
    cell-drawn x y a b (yes w) (no e) (no n) o =
        s.bare.north x y a b (omega arith)
        ∙ sym (drawn-about (cell x y) (λ q g l. omega (arith, g.north, row_near kd (centre q) (cell x y))))
    cell-drawn x y a b (yes w) (no e) (yes n) (yes o) =
        s.bare.south x y a b o ∙ sym (drawn-about (cell x y) (λ q g l. omega (arith, g.south, row_near kd (centre q) (cell x y))))
    cell-drawn x y a b (yes w) (no e) (yes n) (no o) =
        let i : x ≡ x - d.part.column + d.part.column = omega arith in
        let j : y ≡ y - d.part.row + d.part.row = omega arith in
        let k : x - d.part.column < d.part.width = omega arith in
        let l : y - d.part.row < d.part.height = omega arith in
        ap₂ (λ (i j : ℕ). get_or new (j * d.head.width + i) 0) i j ∙ s.holds (x - d.part.column) (y - d.part.row) k l
        ∙ m.holds (x - d.part.column) (y - d.part.row) k l ∙ drawn-boxed (x - d.part.column) (y - d.part.row)
        ∙ ap₂ (λ (i j : ℕ). drawn_from kd 0 qs (cell i j)) (sym i) (sym j)

    pub spread-drawn : Mapped d.head (drawn kd qs) old new
    spread-drawn =
        record {
          same = s.same ∙ m.same ∙ z.same;
          holds = λ x y a b. cell-drawn x y a b (dec_le d.part.column x) (dec_le (d.part.column + d.part.width) x) (dec_le d.part.row y)
              (dec_le (d.part.row + d.part.height) y) ∙ drawn-from-zero kd qs (cell x y);
          surplus = λ k l. s.surplus k l ∙ m.surplus k (omega (arith, part-area)) ∙ z.over k (omega (arith, part-area));
        }
