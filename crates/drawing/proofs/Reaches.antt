-- Laws of drawing reach by reach: reach 0 has the drawing, each reach has the next one's map dilated by one with its own plunges placed, and near the border it is 0.
use mathlib.Core.Path.{◌≡◌, ap, fun_ext}
use mathlib.Core.Bool.{Bool, true, false, cond}
use mathlib.Core.List.{List, map, Memᴰ}
use Prim.Native.Nat.{ℕ, suc, ◌+◌, ◌-◌, ◌≤◌, ◌<◌, max}
use native.Mathlib.Omega.{arith}
use native.Mathlib.Decide.{dec_le}
use native.Mathlib.Nat.{add-zero}
use borrow.Author.Tests.{le-leb, leb-true, eq-eqb, eqb-true}
use lib.Dec.{leb, eqb}
use Rattle.geometry.specs.declared.Kind.{Kind}
use Rattle.geometry.specs.declared.Head.{Head}
use Rattle.geometry.specs.declared.Plunge.{Plunge}
use Rattle.geometry.specs.Lists.{select, highest}
use Rattle.geometry.specs.Plane.{Cell, cell, dist}
use Rattle.geometry.specs.Plate.{at, tabulated}
use Rattle.geometry.specs.Plunges.{centre, covers, fits_plate}
use Rattle.theory.specs.Erosion.{highest_near}
use Rattle.theory.specs.Listing.{drawn}
use Rattle.theory.proofs.Lists.{select_in, select-out, highest-bound, highest-met}
use Rattle.theory.proofs.Distance.{dist-sym, dist-tri, near, step, window}
use Rattle.theory.proofs.Balls.{col-near, row_near}
use Rattle.theory.proofs.Erosion.{le-highest_near, highest_near-met}
use Rattle.theory.proofs.Plunges.{fits_plate-iff}
use Rattle.theory.proofs.Plate.{at-tabulated}
use Rattle.drawing_box.proofs.Rooms.{both, room}
use Rattle.drawing.specs.Reaches.{deepest, drawn_from, centred_depth}

-- ---- the highest depth of some plunges

module _ (t : Plunge → Bool) (qs : List Plunge) where
  -- as deep as each that passes
  pub le-deepest : {q : Plunge} → Memᴰ q qs → t q ≡ true → q.depth ≤ deepest t qs
  unfolding deepest
  le-deepest m e = highest-bound (λ q. q.depth) (select t qs) (select_in t qs m e)

  -- and, above 0, as deep as one of them
  deepest-met : 1 ≤ deepest t qs → (q : Plunge) × Memᴰ q qs × (t q ≡ true) × (q.depth ≡ deepest t qs)
  unfolding deepest
  deepest-met h =
      let m = highest-met (λ q. q.depth) (select t qs) h in
      let s = select-out t qs m.1 in
      (m.0, s.0, s.1, m.2)

  pub deepest-le : (v : ℕ) → ((q : Plunge) → Memᴰ q qs → t q ≡ true → q.depth ≤ v) → deepest t qs ≤ v
  deepest-le v h = go (dec_le 1 (deepest t qs))
    where
      go : Dec (1 ≤ deepest t qs) → deepest t qs ≤ v
      go (no g) = omega arith
      go (yes g) = let m = deepest-met g in omega (arith, h m.0 m.1 m.2, m.3)

-- a plunge of reach r, centred at the cell
pub placed-here : (kd : Kind) (r : ℕ) (q : Plunge) (c : Cell) → q.reach.0 ≡ r → dist kd (centre q) c ≡ 0
    → cond (eqb q.reach.0 r) (eqb (dist kd (centre q) c) 0) false ≡ true
placed-here kd r q c e g = rw (eq-eqb q.reach.0 r e, eq-eqb (dist kd (centre q) c) 0 g)

pub here-placed : (kd : Kind) (r : ℕ) (q : Plunge) (c : Cell) → cond (eqb q.reach.0 r) (eqb (dist kd (centre q) c) 0) false ≡ true
    → (q.reach.0 ≡ r) × (dist kd (centre q) c ≡ 0)
here-placed kd r q c e = let t = both (eqb q.reach.0 r) (eqb (dist kd (centre q) c) 0) e in (eqb-true _ _ t.0, eqb-true _ _ t.1)

-- ---- reach by reach

-- of the balls as they are, the drawing
pub drawn-from-zero : (kd : Kind) (qs : List Plunge) (c : Cell) → drawn_from kd 0 qs c ≡ drawn kd qs c
unfolding deepest drawn
drawn-from-zero kd qs c =
    let e : ◌≡◌ {A = Plunge → Bool} (λ q. leb (dist kd (centre q) c + 0) q.reach.0) (λ q. covers kd q c) =
    fun_ext (λ q. ap (λ (n : ℕ). leb n q.reach.0) (add-zero (dist kd (centre q) c))) in
    ap (λ (t : Plunge → Bool). highest 0 (map (λ q. q.depth) (select t qs))) e

module _ (kd : Kind) (qs : List Plunge) where
  -- above all reaches there is nothing
  pub drawn-from-none : (r : ℕ) → ((q : Plunge) → Memᴰ q qs → q.reach.0 < r) → (c : Cell) → drawn_from kd r qs c ≡ 0
  drawn-from-none r h c =
      omega (
        arith,
        deepest-le (λ q. leb (dist kd (centre q) c + r) q.reach.0) qs 0
            (λ q m e. absurd (omega (arith, h q m, leb-true (dist kd (centre q) c + r) q.reach.0 e))),
      )

  -- one level from the next: dilated by one, and its own plunges placed
  pub drawn-from-step : (r : ℕ) (c : Cell) → drawn_from kd r qs c ≡ max (highest_near kd (drawn_from kd (suc r) qs) c) (centred_depth kd r qs c)
  drawn-from-step r c = omega (arith, under, near-under, placed-under)
    where
      narrow : ℕ → Cell → Plunge → Bool
      narrow r c q = leb (dist kd (centre q) c + r) q.reach.0

      one : (q : Plunge) → Memᴰ q qs → dist kd (centre q) c + r ≤ q.reach.0 → Dec (suc r ≤ q.reach.0)
          → q.depth ≤ max (highest_near kd (drawn_from kd (suc r) qs) c) (centred_depth kd r qs c)
      one q m h (no g) =
          let e : q.reach.0 ≡ r = omega arith in
          let z : dist kd (centre q) c ≡ 0 = omega arith in
          omega (arith, le-deepest (λ q. cond (eqb q.reach.0 r) (eqb (dist kd (centre q) c) 0) false) qs m (placed-here kd r q c e z))
      one q m h (yes g) =
          let s = step kd c (centre q) (q.reach.0 - suc r) (omega (arith, dist-sym kd c (centre q))) in
          let l : dist kd (centre q) s.0 + suc r ≤ q.reach.0 = omega (arith, s.2, dist-sym kd (centre q) s.0) in
          omega (arith, le-deepest (narrow (suc r) s.0) qs m (le-leb _ _ l), le-highest_near kd (drawn_from kd (suc r) qs) c s.1)

      under : drawn_from kd r qs c ≤ max (highest_near kd (drawn_from kd (suc r) qs) c) (centred_depth kd r qs c)
      under = deepest-le (narrow r c) qs _ (λ q m e. one q m (leb-true _ _ e) (dec_le (suc r) q.reach.0))

      near-under : highest_near kd (drawn_from kd (suc r) qs) c ≤ drawn_from kd r qs c
      near-under = let n = highest_near-met kd (drawn_from kd (suc r) qs) c in omega (arith, n.2, wider n.0 n.1)
        where
          wider : (n : Cell) → Memᴰ n (window kd c) → drawn_from kd (suc r) qs n ≤ drawn_from kd r qs c
          wider n w =
              deepest-le (narrow (suc r) n) qs _ (λ q m e.
              let h = leb-true (dist kd (centre q) n + suc r) q.reach.0 e in
              let l : dist kd (centre q) c + r ≤ q.reach.0 = omega (arith, near kd c w, dist-sym kd n c, dist-tri kd (centre q) n c) in
              le-deepest (narrow r c) qs m (le-leb _ _ l))

      placed-under : centred_depth kd r qs c ≤ drawn_from kd r qs c
      placed-under =
          deepest-le _ qs _ (λ q m e.
          let h = here-placed kd r q c e in
          let l : dist kd (centre q) c + r ≤ q.reach.0 = omega (arith, h.0, h.1) in
          le-deepest (narrow r c) qs m (le-leb _ _ l))

-- ---- plunges that fit the plate

module _ (p : Head) (qs : List Plunge) (fits : (q : Plunge) → Memᴰ q qs → fits_plate p q ≡ true) (r : ℕ) where
  -- a cell that no ball holds
  none : (c : Cell) → ((q : Plunge) → fits_plate p q ≡ true → dist p.kind (centre q) c + r ≤ q.reach.0 → ⊥) → drawn_from p.kind r qs c ≡ 0
  none c h = omega (arith, deepest-le _ qs 0 (λ q m e. absurd (h q (fits q m) (leb-true _ _ e))))

  -- off the plate
  pub drawn-from-off : (c : Cell) → ((n : List ℕ) → at p n c ≡ 0) → drawn_from p.kind r qs c ≡ 0
  drawn-from-off c z = none c (λ q f h. omega (arith, z (tabulated p (λ d. 1)), at-tabulated p (λ d. 1) c ((fits_plate-iff p q).0 f c (omega arith))))

  -- a cell of the plate within r of the border
  pub drawn-from-west : (x y : ℕ) → x < r → drawn_from p.kind r qs (cell x y) ≡ 0
  drawn-from-west x y h = none (cell x y) (λ q f g. omega (arith, (room p q f).west, col-near p.kind (centre q) (cell x y)))

  pub drawn-from-east : (x y : ℕ) → p.width ≤ x + r → drawn_from p.kind r qs (cell x y) ≡ 0
  drawn-from-east x y h = none (cell x y) (λ q f g. omega (arith, (room p q f).east, col-near p.kind (centre q) (cell x y)))

  pub drawn-from-north : (x y : ℕ) → y < r → drawn_from p.kind r qs (cell x y) ≡ 0
  drawn-from-north x y h = none (cell x y) (λ q f g. omega (arith, (room p q f).north, row_near p.kind (centre q) (cell x y)))

  pub drawn-from-south : (x y : ℕ) → p.height ≤ y + r → drawn_from p.kind r qs (cell x y) ≡ 0
  drawn-from-south x y h = none (cell x y) (λ q f g. omega (arith, (room p q f).south, row_near p.kind (centre q) (cell x y)))
