-- The numbers that a row starts from: seeds with the row's floor, and the two ends raised to the border's.
use mathlib.Core.Path.{◌≡◌, refl, sym, ap, ◌∙◌}
use mathlib.Core.Bool.{Bool, true, false, cond}
use mathlib.Core.List.{List}
use Prim.Native.Nat.{ℕ, ◌+◌, ◌*◌, ◌-◌, ◌≤◌, ◌<◌, max}
use native.Mathlib.Omega.{arith}
use borrow.Author.Tests.{eqb-true, eqb-false}
use lib.Dec.{eqb}
use lib.ListN.{length, get_or, set, length-set}
use lib.Seq.{get_or-set_same, get_or-set_other}
use Rattle.geometry.specs.declared.Head.{Head}
use Rattle.geometry.specs.Plane.{cell}
use Rattle.geometry.specs.Plate.{at}
use Rattle.theory.proofs.Plate.{at-cell}
use Rattle.buffers.specs.Fill.{Filled}
use Rattle.row_arrays.specs.Rows.{margin, row_places, Margins, Row}
use Rattle.row_arrays.specs.Start.{on_border, start}
use Rattle.row_arrays.specs.Asked.{Held}

-- a number raised to e, all others as they were
raised : (l : List ℕ) (i n v e : ℕ) (b : Bool) → i < length l → v ≡ max (get_or l i 0) e → (b ≡ true → n ≡ i) → (b ≡ false → n ≡ i → ⊥)
    → get_or (set l i v) n 0 ≡ max (get_or l n 0) (cond b e 0)
raised l i n v e true h g t f =
    ap (λ (j : ℕ). get_or (set l i v) j 0) (t refl) ∙ get_or-set_same l i v 0 h ∙ g ∙ ap (λ (j : ℕ). max (get_or l j 0) e) (sym (t refl))
raised l i n v e false h g t f = let o : get_or (set l i v) n 0 ≡ get_or l n 0 = get_or-set_other l i n v 0 (f refl) in omega arith

-- a border on one side or another
either : (a b : Bool) (e : ℕ) → max (cond a e 0) (cond b e 0) ≡ cond (cond a true b) e 0
either true true e = omega arith
either true false e = omega arith
either false true e = omega arith
either false false e = omega arith

first-or : (a b : Bool) (e : ℕ) → cond a e (cond b e 0) ≡ cond (cond a true b) e 0
first-or true b e = refl
first-or false b e = refl

regroup : (s f a b : ℕ) → max (max (max s f) a) b ≡ max s (max a (max b f))
regroup s f a b = omega arith

sides-joined : (a b c d : Bool) (s e : ℕ) → max (max (max s (cond c e (cond d e 0))) (cond a e 0)) (cond b e 0) ≡ max s
    (cond (cond a true (cond b true (cond c true d))) e 0)
sides-joined a b c d s e =
    regroup s (cond c e (cond d e 0)) (cond a e 0) (cond b e 0)
    ∙ ap (λ (v : ℕ). max s (max (cond a e 0) v)) (ap (max (cond b e 0)) (first-or c d e) ∙ either b (cond c true d) e)
    ∙ ap (max s) (either a (cond b true (cond c true d)) e)

-- from the seeds f of a map's numbers
module _ (p : Head) (f : ℕ → ℕ) (m : List ℕ) (y : ℕ) (held : Held p) (tall : y < p.height) (edge : ℕ) (edge-is : edge ≡ f 0 - 1) where
  abbrev floor : ℕ
  floor = cond (eqb y 0) edge (cond (eqb (y + 1) p.height) edge 0)

  -- the seeds, the first column raised, the last column raised
  pub loaded : (least a b : ℕ) (old mid : List ℕ) → Margins p.width old → least ≡ floor
      → Filled (λ n. max (f (get_or m (y * p.width + (n - margin)) 0)) least) margin (margin + p.width) old mid
      → a ≡ max (get_or mid margin 0) edge → b ≡ max (get_or (set mid margin a) (margin + p.width - 1) 0) edge
      → Row (λ x. start p f m x y) p.width (set (set mid margin a) (margin + p.width - 1) b)
  loaded least a b old mid o e h g k = record { margins = record { size = long ∙ size; under = under; over = over }; cells = cells }
    where
      last : ℕ
      last = margin + p.width - 1

      long : length (set (set mid margin a) last b) ≡ length mid
      long = length-set (set mid margin a) last b ∙ length-set mid margin a

      size : length mid ≡ row_places
      size = h.same ∙ o.size

      -- at a place that is neither end
      apart : (n : ℕ) → (n ≡ margin → ⊥) → (n ≡ last → ⊥) → get_or (set (set mid margin a) last b) n 0 ≡ get_or mid n 0
      apart n u v = get_or-set_other (set mid margin a) last n b 0 v ∙ get_or-set_other mid margin n a 0 u

      under : (n : ℕ) → n < margin → get_or (set (set mid margin a) last b) n 0 ≡ 0
      under n l = apart n (λ i. omega arith) (λ i. omega (arith, held.wide)) ∙ h.under n l ∙ o.under n l

      over : (n : ℕ) → margin + p.width ≤ n → get_or (set (set mid margin a) last b) n 0 ≡ 0
      over n l = apart n (λ i. omega (arith, held.wide)) (λ i. omega (arith, held.wide)) ∙ h.over n l ∙ o.over n l

      seeded : (x : ℕ) → x < p.width → get_or mid (margin + x) 0 ≡ max (f (at p m (cell x y))) floor
      seeded x l =
          let i : margin + x - margin ≡ x = omega arith in
          h.inside (margin + x) (omega arith) (omega arith)
          ∙ ap (λ (j : ℕ). max (f (get_or m (y * p.width + j) 0)) least) i
          ∙ ap (λ (n : ℕ). max (f n) least) (sym (at-cell p m x y l tall))
          ∙ ap (max (f (at p m (cell x y)))) e

      first : (x : ℕ) → get_or (set mid margin a) (margin + x) 0 ≡ max (get_or mid (margin + x) 0) (cond (eqb x 0) edge 0)
      first x = raised mid margin (margin + x) a edge (eqb x 0) (omega (arith, size)) g (λ t. omega (arith, eqb-true x 0 t))
          (λ t i. eqb-false x 0 t (omega arith))

      second : (x : ℕ) → get_or (set (set mid margin a) last b) (margin + x) 0 ≡ max (get_or (set mid margin a) (margin + x) 0)
          (cond (eqb (x + 1) p.width) edge 0)
      second x =
          raised (set mid margin a) last (margin + x) b edge (eqb (x + 1) p.width) (omega (arith, size, length-set mid margin a, held.narrow)) k
          (λ t. omega (arith, eqb-true (x + 1) p.width t))
          (λ t i. eqb-false (x + 1) p.width t (omega (arith, held.wide)))

      cells : (x : ℕ) → x < p.width → get_or (set (set mid margin a) last b) (margin + x) 0 ≡ start p f m x y
      cells x l =
          second x
          ∙ ap (λ (v : ℕ). max v (cond (eqb (x + 1) p.width) edge 0)) (first x ∙ ap (λ (v : ℕ). max v (cond (eqb x 0) edge 0)) (seeded x l))
          ∙ sides-joined (eqb x 0) (eqb (x + 1) p.width) (eqb y 0) (eqb (y + 1) p.height) (f (at p m (cell x y))) edge
          ∙ ap (λ (e : ℕ). max (f (at p m (cell x y))) (cond (on_border p x y) e 0)) edge-is
