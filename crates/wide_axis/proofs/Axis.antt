-- Laws of the medial axis: the numbers that no neighbour's exceeds, of a map of clearances, are the axis.
use mathlib.Core.Path.{◌≡◌, refl, sym, ap, ap₂, ◌∙◌, subst, fun_ext}
use mathlib.Core.Logic.{◌⊎◌, inl, inr}
use mathlib.Core.Bool.{Bool, true, false, cond}
use mathlib.Core.List.{List, [], ◌∷◌, ◌++◌, Memᴰ}
use Prim.Native.Nat.{ℕ, zero, suc, ◌+◌, ◌*◌, ◌≤◌, ◌<◌}
use native.Mathlib.Omega.{arith}
use native.Mathlib.Decide.{dec_le}
use borrow.Author.Tests.{leb-true, leb-false}
use lib.Arith.{digits_lt}
use lib.Dec.{leb}
use lib.ListN.{length, get_or, drop}
use lib.Seq.{drop-append_seam}
use Rattle.geometry.specs.declared.Head.{Head}
use Rattle.geometry.specs.Plane.{Cell, neighbours}
use Rattle.geometry.specs.Plate.{On, area, at, tabulated}
use Rattle.window.specs.Windows.{window_of}
use Rattle.window.proofs.Windows.{window-max-near}
use Rattle.theory.specs.Erosion.{highest_near}
use Rattle.theory.specs.Levels.{clearance, axis}
use Rattle.theory.proofs.Distance.{window}
use Rattle.theory.proofs.Erosion.{le-highest_near, highest_near-met}
use Rattle.theory.proofs.Levels.{clearance-off, axis-kept, axis-above}
use Rattle.theory.proofs.Plate.{on-or-off, at-cell, length-tabulated, get_or-tabulated}
use Rattle.wide_rows.specs.Wide.{wide_map, wide_numbers}
use Rattle.wide_rows.proofs.Wide.{length-map}
use Rattle.row_filter.specs.Filter.{kept}
use Rattle.wide_axis.specs.Kept.{kept_map}

-- the numbers that a buffer holds which starts with their bytes
numbers-first : (ns rest : List ℕ) (n : ℕ) → n < length ns → get_or (wide_numbers (wide_map ns ++ rest)) n 0 ≡ get_or ns n 0
unfolding wide_map wide_numbers
numbers-first [] rest n h = absurd (omega arith)
numbers-first (a ∷ ns) rest zero h = omega arith
numbers-first (a ∷ ns) rest (suc n) h = numbers-first ns rest n (omega arith)

module _ (p : Head) (m : List ℕ) (t : ℕ) (level : 1 ≤ t) where
  -- "keeps the clearance where no neighbour's is larger, and is 0 elsewhere", by the highest among a cell and its neighbours
  pub axis-highest : (c : Cell) → cond (leb (highest_near p.kind (clearance p m t) c) (clearance p m t c)) (clearance p m t c) 0 ≡ axis p m t c
  axis-highest c = go (leb (highest_near p.kind (clearance p m t) c) (clearance p m t c)) refl
    where
      larger : clearance p m t c < highest_near p.kind (clearance p m t) c
          → ((n : Cell) → Memᴰ n (neighbours p.kind c) → clearance p m t n ≤ clearance p m t c) → ⊥
      larger h none = let s = highest_near-met p.kind (clearance p m t) c in at_one s.0 s.1 s.2
        where
          at_one : (n : Cell) → Memᴰ n (window p.kind c) → clearance p m t n ≡ highest_near p.kind (clearance p m t) c → ⊥
          at_one n (Memᴰ.head e) k = omega (arith, ap (clearance p m t) e)
          at_one n (Memᴰ.tail i) k = omega (arith, none n i)

      zero-if : clearance p m t c < highest_near p.kind (clearance p m t) c → Dec (1 ≤ axis p m t c) → 0 ≡ axis p m t c
      zero-if h (yes g) = absurd (larger h (axis-above p m t level c g).1)
      zero-if h (no g) = omega arith

      go : (b : Bool) → leb (highest_near p.kind (clearance p m t) c) (clearance p m t c) ≡ b → cond b (clearance p m t c) 0 ≡ axis p m t c
      go true e = sym (axis-kept p m t level c
          (λ n i. omega (
            arith,
            leb-true (highest_near p.kind (clearance p m t) c) (clearance p m t c) e,
            le-highest_near p.kind (clearance p m t) c (Memᴰ.tail i),
          )))
      go false e = zero-if (leb-false _ _ e) (dec_le 1 (axis p m t c))

  abbrev cleared : List ℕ
  cleared = tabulated p (clearance p m t)

  -- the bytes of clearances have them at every cell of the plane
  at-clearance : (rest : List ℕ) → at p (wide_numbers (wide_map cleared ++ rest)) ≡ clearance p m t
  at-clearance rest = fun_ext (λ d. go d (on-or-off p d))
    where
      go : (d : Cell) → On p d ⊎ ((n : List ℕ) → at p n d ≡ 0) → at p (wide_numbers (wide_map cleared ++ rest)) d ≡ clearance p m t d
      go d (inl o) = subst (λ e. at p (wide_numbers (wide_map cleared ++ rest)) e ≡ clearance p m t e) (sym o.is)
          (at-cell p (wide_numbers (wide_map cleared ++ rest)) o.column o.row o.left o.upper
          ∙ numbers-first cleared rest (o.row * p.width + o.column)
          (omega (arith, digits_lt o.upper o.left, length-tabulated p (clearance p m t)))
          ∙ get_or-tabulated p (clearance p m t) o.column o.row o.left o.upper)
      go d (inr z) = z (wide_numbers (wide_map cleared ++ rest)) ∙ sym (clearance-off p m t level d z)

  -- what is kept of clearances
  kept-axis : (numbers : List ℕ) → at p numbers ≡ clearance p m t → kept_map p numbers ≡ tabulated p (axis p m t)
  kept-axis numbers e = ap (tabulated p) (fun_ext one)
    where
      one : (d : Cell) → kept p.kind (window_of p numbers d) ≡ axis p m t d
      one d =
          ap (λ (v : ℕ). cond (leb v (at p numbers d)) (at p numbers d) 0) (window-max-near p numbers d)
          ∙ ap (λ (f : Cell → ℕ). cond (leb (highest_near p.kind f d) (f d)) (f d) 0) e
          ∙ axis-highest d

  -- clearances, and what is kept of them
  pub wide-axis : (old mid new : List ℕ) → mid ≡ wide_map cleared ++ drop (length (wide_map cleared)) old
      → new ≡ wide_map (kept_map p (wide_numbers mid)) ++ drop (length (wide_map (kept_map p (wide_numbers mid)))) mid
      → new ≡ wide_map (tabulated p (axis p m t)) ++ drop (length (wide_map (tabulated p (axis p m t)))) old
  wide-axis old mid new c k = k ∙ ap₂ (λ (ns rest : List ℕ). wide_map ns ++ rest) same surplus
    where
      same : kept_map p (wide_numbers mid) ≡ tabulated p (axis p m t)
      same = kept-axis (wide_numbers mid)
          (ap (λ (l : List ℕ). at p (wide_numbers l)) c ∙ at-clearance (drop (length (wide_map cleared)) old))

      sizes : (f : Cell → ℕ) → length (wide_map (tabulated p f)) ≡ 2 * area p
      sizes f = omega (arith, length-map (tabulated p f), length-tabulated p f)

      surplus : drop (length (wide_map (kept_map p (wide_numbers mid)))) mid ≡ drop (length (wide_map (tabulated p (axis p m t)))) old
      surplus =
          ap₂ (λ (n : ℕ) (l : List ℕ). drop n l) (sizes (λ d. kept p.kind (window_of p (wide_numbers mid) d)) ∙ sym (sizes (clearance p m t))) c
          ∙ drop-append_seam (wide_map cleared) (drop (length (wide_map cleared)) old)
          ∙ ap (λ (n : ℕ). drop n old) (sizes (clearance p m t) ∙ sym (sizes (axis p m t)))
