-- Laws of drawing reach by reach: the stretches of a list that have a reach, what placing leaves, and one level from the next.
use mathlib.Core.Path.{◌≡◌, refl, sym, ap, ◌∙◌, subst, fun_ext}
use mathlib.Core.Logic.{◌⊎◌, inl, inr}
use mathlib.Core.Bool.{Bool, true, false, cond}
use mathlib.Core.List.Memᴰ
use mathlib.Core.List.{List, [], ◌∷◌, Memᴰ}
use Prim.Native.Nat.{ℕ, suc, ◌+◌, ◌*◌, ◌≤◌, ◌<◌, max}
use native.Mathlib.Omega.{arith}
use native.Mathlib.Decide.{dec_le, ℕ_discrete}
use borrow.Author.Tests.{eqb-true}
use lib.Arith.{digits_lt}
use lib.Dec.{eqb}
use lib.IntN.{pos}
use lib.ListN.{length, get_or, set, replicate, length-set, length-replicate, get_or-replicate, get_or-eq_default}
use lib.Seq.{get_or-set_same, get_or-set_other}
use Rattle.geometry.specs.declared.Kind.{Kind}
use Rattle.geometry.specs.declared.Head.{Head}
use Rattle.geometry.specs.declared.Plunge.{Plunge}
use Rattle.geometry.specs.Forms.{largest_reach}
use Rattle.geometry.specs.Lists.{gather}
use Rattle.geometry.specs.Plane.{Cell, cell, dist}
use Rattle.geometry.specs.Plate.{On, area, at}
use Rattle.geometry.specs.Plunges.{centre, fits_plate}
use Rattle.theory.specs.Erosion.{highest_near}
use Rattle.theory.proofs.Lists.{gather-out, each_in}
use Rattle.theory.proofs.Distance.{dist-self, dist-zero}
use Rattle.theory.proofs.Erosion.{highest_near-met}
use Rattle.theory.proofs.Plate.{on-or-off, at-cell}
use Rattle.buffers.specs.Fill.{Mapped}
use Rattle.buffers.specs.Margin.{Margin}
use Rattle.buffers.proofs.Fill.{row_under}
use Rattle.drawing_box.proofs.Rooms.{room}
use Rattle.drawing.specs.Reaches.{drawn_from, centred_depth}
use Rattle.drawing.specs.Files.{reaches, Ranges, centre_at, Of, Raised}
use Rattle.drawing.proofs.Reaches.{le-deepest, deepest-le, placed-here, here-placed, drawn-from-none, drawn-from-step, drawn-from-off, drawn-from-west, drawn-from-east, drawn-from-north, drawn-from-south}

-- ---- centres

pub centre-within : (p : Head) (q : Plunge) → fits_plate p q ≡ true → centre_at p q < area p
centre-within p q e =
    let r = room p q e in
    let a : q.row < p.height = omega (arith, r.south) in
    let b : q.column < p.width = omega (arith, r.east) in
    digits_lt a b

-- ---- stretches

-- no stretch yet
abbrev pub zeros : List ℕ
zeros = replicate reaches 0

zeros-at : (n : ℕ) → get_or zeros n 0 ≡ 0
zeros-at n = go (dec_le reaches n)
  where
    go : Dec (reaches ≤ n) → get_or zeros n 0 ≡ 0
    go (yes h) = let l : length zeros ≤ n = omega (arith, length-replicate {A = ℕ} reaches 0) in get_or-eq_default zeros 0 l
    go (no h) = get_or-replicate reaches n 0 0 (omega arith)

module _ (reach : ℕ → ℕ) where
  pub ranges-none : (first last : List ℕ) → first ≡ zeros → last ≡ zeros → Ranges reach 0 first last 0
  ranges-none first last e g =
      record {
        first-size = ap length e ∙ length-replicate {A = ℕ} reaches 0;
        last-size = ap length g ∙ length-replicate {A = ℕ} reaches 0;
        starts = λ i h. absurd (omega arith);
        ends = λ i h. absurd (omega arith);
        ordered = λ r. omega (arith, ap (λ (l : List ℕ). get_or l r 0) e, zeros-at r);
        within = λ r. omega (arith, ap (λ (l : List ℕ). get_or l r 0) g, zeros-at r);
        largest = λ i h. absurd (omega arith);
        small = omega arith;
      }

  -- one plunge more
  pub ranges_more : (i r a t : ℕ) (first last : List ℕ) (top : ℕ) → Ranges reach i first last top → r ≡ reach i → r ≤ largest_reach
      → a ≡ cond (eqb (get_or last r 0) 0) i (get_or first r 0) → t ≡ max top r → Ranges reach (i + 1) (set first r a) (set last r (i + 1)) t
  ranges_more i r a t first last top s e small begin high =
      record {
        first-size = length-set first r a ∙ s.first-size;
        last-size = length-set last r (i + 1) ∙ s.last-size;
        starts = λ j h. starts' j h (ℕ_discrete (reach j) r);
        ends = λ j h. ends' j h (ℕ_discrete (reach j) r);
        ordered = λ k. ordered' k (ℕ_discrete k r);
        within = λ k. within' k (ℕ_discrete k r);
        largest = λ j h. largest' j h (dec_le i j);
        small = omega (arith, s.small);
      }
    where
      first-here : get_or (set first r a) r 0 ≡ a
      first-here = get_or-set_same first r a 0 (omega (arith, s.first-size))

      last-here : get_or (set last r (i + 1)) r 0 ≡ i + 1
      last-here = get_or-set_same last r (i + 1) 0 (omega (arith, s.last-size))

      -- where the stretch starts: no later than here, nor than any plunge of the reach before
      begin-here : a ≤ i
      begin-here = go (eqb (get_or last r 0) 0) begin
        where
          go : (b : Bool) → a ≡ cond b i (get_or first r 0) → a ≤ i
          go true g = omega arith
          go false g = omega (arith, s.ordered r, s.within r)

      begin-before : (j : ℕ) → j < i → reach j ≡ r → a ≤ j
      begin-before j h g = go (eqb (get_or last r 0) 0) refl begin
        where
          in-last : j < get_or last r 0
          in-last = subst (λ (k : ℕ). j < get_or last k 0) g (s.ends j h)

          go : (b : Bool) → eqb (get_or last r 0) 0 ≡ b → a ≡ cond b i (get_or first r 0) → a ≤ j
          go true k m = absurd (omega (arith, eqb-true (get_or last r 0) 0 k, in-last))
          go false k m = let u : get_or first r 0 ≤ j = subst (λ (k : ℕ). get_or first k 0 ≤ j) g (s.starts j h) in omega arith

      starts' : (j : ℕ) → j < i + 1 → Dec (reach j ≡ r) → get_or (set first r a) (reach j) 0 ≤ j
      starts' j h (yes g) = subst (λ (k : ℕ). get_or (set first r a) k 0 ≤ j) (sym g) (at_turn (dec_le i j))
        where
          at_turn : Dec (i ≤ j) → get_or (set first r a) r 0 ≤ j
          at_turn (yes k) = omega (arith, first-here, begin-here)
          at_turn (no k) = omega (arith, first-here, begin-before j (omega arith) g)
      starts' j h (no g) = earlier (dec_le i j)
        where
          earlier : Dec (i ≤ j) → get_or (set first r a) (reach j) 0 ≤ j
          earlier (yes k) = let u : j ≡ i = omega arith in absurd (g (ap reach u ∙ sym e))
          earlier (no k) = omega (arith, get_or-set_other first r (reach j) a 0 g, s.starts j (omega arith))

      ends' : (j : ℕ) → j < i + 1 → Dec (reach j ≡ r) → j < get_or (set last r (i + 1)) (reach j) 0
      ends' j h (yes g) = subst (λ (k : ℕ). j < get_or (set last r (i + 1)) k 0) (sym g) (omega (arith, last-here))
      ends' j h (no g) = earlier (dec_le i j)
        where
          earlier : Dec (i ≤ j) → j < get_or (set last r (i + 1)) (reach j) 0
          earlier (yes k) = let u : j ≡ i = omega arith in absurd (g (ap reach u ∙ sym e))
          earlier (no k) = omega (arith, get_or-set_other last r (reach j) (i + 1) 0 g, s.ends j (omega arith))

      ordered' : (k : ℕ) → Dec (k ≡ r) → get_or (set first r a) k 0 ≤ get_or (set last r (i + 1)) k 0
      ordered' k (yes g) = subst (λ (k : ℕ). get_or (set first r a) k 0 ≤ get_or (set last r (i + 1)) k 0) (sym g)
          (omega (arith, first-here, last-here, begin-here))
      ordered' k (no g) = omega (arith, get_or-set_other first r k a 0 g, get_or-set_other last r k (i + 1) 0 g, s.ordered k)

      within' : (k : ℕ) → Dec (k ≡ r) → get_or (set last r (i + 1)) k 0 ≤ i + 1
      within' k (yes g) = subst (λ (k : ℕ). get_or (set last r (i + 1)) k 0 ≤ i + 1) (sym g) (omega (arith, last-here))
      within' k (no g) = omega (arith, get_or-set_other last r k (i + 1) 0 g, s.within k)

      largest' : (j : ℕ) → j < i + 1 → Dec (i ≤ j) → reach j ≤ t
      largest' j h (yes k) = let u : j ≡ i = omega arith in omega (arith, ap reach u)
      largest' j h (no k) = omega (arith, s.largest j (omega arith))

-- ---- placing

module _ (p : Head) (nth : ℕ → Plunge) (r : ℕ) where
  -- a plunge of the reach
  pub raised-one : (i v : ℕ) (old : List ℕ) → (nth i).reach.0 ≡ r → centre_at p (nth i) < length old
      → v ≡ max (get_or old (centre_at p (nth i)) 0) (nth i).depth → Raised p nth r i (i + 1) old (set old (centre_at p (nth i)) v)
  raised-one i v old e l g =
      record {
        same = length-set old k v;
        low = λ n. higher n (ℕ_discrete n k);
        bound = λ j a b u. let z : i ≡ j = omega arith in
            subst (λ (j : ℕ). (nth j).depth ≤ get_or (set old k v) (centre_at p (nth j)) 0) z (omega (arith, here));
        met = λ n. one n (ℕ_discrete n k) (dec_le (nth i).depth (get_or old k 0));
      }
    where
      k : ℕ
      k = centre_at p (nth i)

      here : get_or (set old k v) k 0 ≡ v
      here = get_or-set_same old k v 0 l

      higher : (n : ℕ) → Dec (n ≡ k) → get_or old n 0 ≤ get_or (set old k v) n 0
      higher n (yes h) = subst (λ (n : ℕ). get_or old n 0 ≤ get_or (set old k v) n 0) (sym h) (omega (arith, here))
      higher n (no h) = omega (arith, get_or-set_other old k n v 0 h)

      one : (n : ℕ) → Dec (n ≡ k) → Dec ((nth i).depth ≤ get_or old k 0) → (get_or (set old k v) n 0 ≡ get_or old n 0) ⊎ Of p nth r i (i + 1) (set old k v) n
      one n (no h) d = inl (get_or-set_other old k n v 0 h)
      one n (yes h) (yes d) = inl (subst (λ (n : ℕ). get_or (set old k v) n 0 ≡ get_or old n 0) (sym h) (omega (arith, here)))
      one n (yes h) (no d) = inr (
        i,
        omega arith,
        omega arith,
        e,
        sym h,
        subst (λ (n : ℕ). (nth i).depth ≡ get_or (set old k v) n 0) (sym h) (omega (arith, here)),
      )

  pub raised-one-told : (i v : ℕ) (q : Plunge) (old : List ℕ) → q ≡ nth i → q.reach.0 ≡ r → centre_at p q < length old
      → v ≡ max (get_or old (centre_at p q) 0) q.depth → Raised p nth r i (i + 1) old (set old (centre_at p q) v)
  raised-one-told i v q old e g l k =
      subst (λ (q : Plunge). Raised p nth r i (i + 1) old (set old (centre_at p q) v)) (sym e)
      (raised-one i v old (ap (λ (q : Plunge). q.reach.0) (sym e) ∙ g) (subst (λ (q : Plunge). centre_at p q < length old) e l)
      (subst (λ (q : Plunge). v ≡ max (get_or old (centre_at p q) 0) q.depth) e k))

-- ---- reach by reach

-- a place lies in one row, at one column
one_cell : (w x y i j : ℕ) → x < w → i < w → y * w + x ≡ j * w + i → (x ≡ i) × (y ≡ j)
one_cell w x y i j a b e = go (dec_le (suc y) j) (dec_le (suc j) y)
  where
    go : Dec (suc y ≤ j) → Dec (suc j ≤ y) → (x ≡ i) × (y ≡ j)
    go (yes h) l = absurd (omega (arith, row_under w j x y a h))
    go (no h) (yes l) = absurd (omega (arith, row_under w y i j b l))
    go (no h) (no l) = let k : y ≡ j = omega arith in (omega (arith, ap (λ (n : ℕ). n * w) k), k)

-- cells that are the same have the same column and row
same-column : (x y i j : ℕ) → cell x y ≡ cell i j → x ≡ i
same-column x y i j e = let g : pos x ≡ pos i = ap (λ c. c.col) e in cc

same_row : (x y i j : ℕ) → cell x y ≡ cell i j → y ≡ j
same_row x y i j e = let g : pos y ≡ pos j = ap (λ c. c.row) e in cc

-- a map made of another map, in the same buffer
pub mapped-on : (p : Head) (g h : Cell → ℕ) (old mid new : List ℕ) → Mapped p g old mid → Mapped p h mid new → Mapped p h old new
mapped-on p g h old mid new a b = record { same = b.same ∙ a.same; holds = b.holds; surplus = λ n l. b.surplus n l ∙ a.surplus n l }

pub mapped-self : (p : Head) (g : Cell → ℕ) (old new : List ℕ) → Mapped p g old new → Mapped p g new new
mapped-self p g old new a = record { same = refl; holds = a.holds; surplus = λ n l. refl }

-- the plunges of a list have its numbers
module _ (n : ℕ) (nth : ℕ → Plunge) where
  pub index : {q : Plunge} → Memᴰ q (gather n 0 (λ i. nth i ∷ [])) → (i : ℕ) × (i < n) × (q ≡ nth i)
  index m = let t = gather-out n 0 (λ i. nth i ∷ []) m in (t.0, omega (arith, t.2), Memᴰ.eq_of_singleton t.3)

  pub member : (i : ℕ) → i < n → Memᴰ (nth i) (gather n 0 (λ i. nth i ∷ []))
  member i l = each_in nth n 0 i (omega arith) (omega arith)

module _ (p : Head) (n : ℕ) (nth : ℕ → Plunge) (fits : (i : ℕ) → i < n → fits_plate p (nth i) ≡ true) where
  abbrev qs : List Plunge
  qs = gather n 0 (λ i. nth i ∷ [])

  fits_all : (q : Plunge) → Memᴰ q qs → fits_plate p q ≡ true
  fits_all q m = let t = index n nth m in subst (λ (q : Plunge). fits_plate p q ≡ true) (sym t.2) (fits t.0 t.1)

  -- the plunges of one reach placed on a map
  module _ (r from to : ℕ) (g : Cell → ℕ) (old mid new : List ℕ) (m : Mapped p g old mid) (a : Raised p nth r from to mid new) (has : (i : ℕ) → i < n
      → (nth i).reach.0 ≡ r → (from ≤ i) × (i < to)) (within : to ≤ n) where
    abbrev is-placed : Cell → Plunge → Bool
    is-placed c q = cond (eqb q.reach.0 r) (eqb (dist p.kind (centre q) c) 0) false

    module _ (x y : ℕ) (hx : x < p.width) (hy : y < p.height) where
      abbrev here : ℕ
      here = y * p.width + x

      placed-le : centred_depth p.kind r qs (cell x y) ≤ get_or new here 0
      placed-le = deepest-le (is-placed (cell x y)) qs (get_or new here 0) (λ q k e. one q k (here-placed p.kind r q (cell x y) e))
        where
          one : (q : Plunge) → Memᴰ q qs → (q.reach.0 ≡ r) × (dist p.kind (centre q) (cell x y) ≡ 0) → q.depth ≤ get_or new here 0
          one q k e =
              let t = index n nth k in
              let i = t.0 in
              let c : centre q ≡ cell x y = dist-zero p.kind (centre q) (cell x y) e.1 in
              let u : q.column ≡ x = same-column q.column q.row x y c in
              let v : q.row ≡ y = same_row q.column q.row x y c in
              let z : centre_at p q ≡ here = ap (λ (j : ℕ). j * p.width + q.column) v ∙ ap (λ (j : ℕ). y * p.width + j) u in
              let s = has i t.1 (ap (λ (q : Plunge). q.reach.0) (sym t.2) ∙ e.0) in
              let b = a.bound i s.0 s.1 (ap (λ (q : Plunge). q.reach.0) (sym t.2) ∙ e.0) in
              subst (λ (j : ℕ). q.depth ≤ get_or new j 0) z (subst (λ (q : Plunge). q.depth ≤ get_or new (centre_at p q) 0) (sym t.2) b)

      new-le : get_or new here 0 ≤ max (g (cell x y)) (centred_depth p.kind r qs (cell x y))
      new-le = go (a.met here)
        where
          go : (get_or new here 0 ≡ get_or mid here 0) ⊎ Of p nth r from to new here → get_or new here 0 ≤ max (g (cell x y)) (centred_depth p.kind r qs (cell x y))
          go (inl e) = omega (arith, m.holds x y hx hy)
          go (inr (i, s, t, e, z, k)) =
              let l : i < n = omega arith in
              let q = nth i in
              let b : q.column < p.width = omega (arith, (room p q (fits i l)).east) in
              let o = one_cell p.width q.column q.row x y b hx z in
              let c : centre q ≡ cell x y = ap (λ (j : ℕ). cell j q.row) o.0 ∙ ap (λ (j : ℕ). cell x j) o.1 in
              let w : dist p.kind (centre q) (cell x y) ≡ 0 = ap (dist p.kind (centre q)) (sym c) ∙ dist-self p.kind (centre q) in
              omega (arith, le-deepest (is-placed (cell x y)) qs (member n nth i l) (placed-here p.kind r q (cell x y) e w))

      new_is : get_or new here 0 ≡ max (g (cell x y)) (centred_depth p.kind r qs (cell x y))
      new_is = omega (arith, new-le, placed-le, a.low here, m.holds x y hx hy)

    placed-mapped : Mapped p (λ c. max (g c) (centred_depth p.kind r qs c)) old new
    placed-mapped = record { same = a.same ∙ m.same; holds = new_is; surplus = λ k l. past k l (a.met k) ∙ m.surplus k l }
      where
        past : (k : ℕ) → area p ≤ k → (get_or new k 0 ≡ get_or mid k 0) ⊎ Of p nth r from to new k → get_or new k 0 ≡ get_or mid k 0
        past k l (inl e) = e
        past k l (inr (i, s, t, e, z, w)) = absurd (omega (arith, centre-within p (nth i) (fits i (omega arith))))

  -- what a stretch of a reach has
  has_all : (first last : List ℕ) (top : ℕ) → Ranges (λ i. (nth i).reach.0) n first last top → (r i : ℕ) → i < n → (nth i).reach.0 ≡ r → (get_or first r 0 ≤ i)
      × (i < get_or last r 0)
  has_all first last top s r i l e = (subst (λ (k : ℕ). get_or first k 0 ≤ i) e (s.starts i l), subst (λ (k : ℕ). i < get_or last k 0) e (s.ends i l))

  -- the highest of nothing
  near_none : (kd : Kind) (g : Cell → ℕ) → ((c : Cell) → g c ≡ 0) → (c : Cell) → highest_near kd g c ≡ 0
  near_none kd g z c = let t = highest_near-met kd g c in omega (arith, t.2, z t.0)

  -- the first level: the plunges of the largest reach on a bare plate
  pub level-first : (first last : List ℕ) (top : ℕ) → Ranges (λ i. (nth i).reach.0) n first last top → (old new : List ℕ) → Mapped p (λ c. 0) old old
      → Raised p nth top (get_or first top 0) (get_or last top 0) old new → Mapped p (drawn_from p.kind top qs) old new
  level-first first last top s old new m a =
      let b = placed-mapped top (get_or first top 0) (get_or last top 0) (λ c. 0) old old new m a (has_all first last top s top) (s.within top) in
      record { same = b.same; holds = λ x y h l. b.holds x y h l ∙ sym (grown (cell x y)); surplus = b.surplus }
    where
      grown : (c : Cell) → drawn_from p.kind top qs c ≡ max 0 (centred_depth p.kind top qs c)
      grown c =
          omega (
            arith,
            drawn-from-step p.kind qs top c,
            near_none p.kind (drawn_from p.kind (suc top) qs)
                (drawn-from-none p.kind qs (suc top)
                (λ q k. let t = index n nth k in omega (arith, s.largest t.0 t.1, ap (λ (q : Plunge). q.reach.0) t.2))) c,
          )

  -- a level's map has its numbers at every cell of the plane
  at_level : (r : ℕ) (old mid : List ℕ) → Mapped p (drawn_from p.kind r qs) old mid → at p mid ≡ drawn_from p.kind r qs
  at_level r old mid m = fun_ext (λ c. go c (on-or-off p c))
    where
      go : (c : Cell) → On p c ⊎ ((k : List ℕ) → at p k c ≡ 0) → at p mid c ≡ drawn_from p.kind r qs c
      go c (inl o) = subst (λ c. at p mid c ≡ drawn_from p.kind r qs c) (sym o.is)
          (at-cell p mid o.column o.row o.left o.upper ∙ m.holds o.column o.row o.left o.upper)
      go c (inr z) = z mid ∙ sym (drawn-from-off p qs fits_all r c z)

  -- and 0 within its reach of the border
  pub reach-margin : (r k : ℕ) → r ≡ k → (old mid : List ℕ) → Mapped p (drawn_from p.kind r qs) old mid → Margin p k mid
  reach-margin r k e old mid m =
      subst (λ (k : ℕ). Margin p k mid) e
      (record {
        west = λ x y a b h. m.holds x y a b ∙ drawn-from-west p qs fits_all r x y h;
        east = λ x y a b h. m.holds x y a b ∙ drawn-from-east p qs fits_all r x y h;
        north = λ x y a b h. m.holds x y a b ∙ drawn-from-north p qs fits_all r x y h;
        south = λ x y a b h. m.holds x y a b ∙ drawn-from-south p qs fits_all r x y h;
      })

  -- one level from the next: dilated by one, with the plunges of its reach placed
  pub level-next : (first last : List ℕ) (top : ℕ) → Ranges (λ i. (nth i).reach.0) n first last top → (r s : ℕ) → s ≡ suc r → (old mid half new : List ℕ)
      → Mapped p (drawn_from p.kind s qs) old mid → Mapped p (highest_near p.kind (at p mid)) mid half
      → Raised p nth r (get_or first r 0) (get_or last r 0) half new → Mapped p (drawn_from p.kind r qs) old new
  level-next first last top t r s e old mid half new m h a =
      let w = mapped-on p (drawn_from p.kind s qs) (highest_near p.kind (at p mid)) old mid half m h in
      let b = placed-mapped r (get_or first r 0) (get_or last r 0) (highest_near p.kind (at p mid)) old half new w a (has_all first last top t r) (t.within r) in
      record { same = b.same; holds = λ x y k l. b.holds x y k l ∙ sym (grown (cell x y)); surplus = b.surplus }
    where
      grown : (c : Cell) → drawn_from p.kind r qs c ≡ max (highest_near p.kind (at p mid) c) (centred_depth p.kind r qs c)
      grown c =
          drawn-from-step p.kind qs r c
          ∙ ap (λ (k : ℕ). max (highest_near p.kind (drawn_from p.kind k qs) c) (centred_depth p.kind r qs c)) (sym e)
          ∙ ap (λ (g : Cell → ℕ). max (highest_near p.kind g c) (centred_depth p.kind r qs c)) (sym (at_level s old mid m))

  -- the last level is the drawing
  pub level-last : (r : ℕ) → r ≤ 0 → (old new : List ℕ) → Mapped p (drawn_from p.kind r qs) old new → Mapped p (drawn_from p.kind 0 qs) old new
  level-last r h old new m = let e : r ≡ 0 = omega arith in subst (λ (r : ℕ). Mapped p (drawn_from p.kind r qs) old new) e m
