-- Laws of the medial axis: the numbers that no neighbour's exceeds, of a map of clearances, are the axis.
use mathlib.Core.Path.{◌≡◌, refl, sym, ap, ◌∙◌, subst, fun_ext}
use mathlib.Core.Logic.{◌⊎◌, inl, inr}
use mathlib.Core.Bool.{Bool, true, false, cond}
use mathlib.Core.List.{List, Memᴰ}
use Prim.Native.Nat.{ℕ, ◌≤◌, ◌<◌}
use native.Mathlib.Omega.{arith}
use native.Mathlib.Decide.{dec_le}
use borrow.Author.Tests.{leb-true, leb-false}
use lib.Dec.{leb}
use Rattle.geometry.specs.declared.Head.{Head}
use Rattle.geometry.specs.Plane.{Cell, cell, neighbours}
use Rattle.geometry.specs.Plate.{On, at}
use Rattle.window.specs.Windows.{window_of}
use Rattle.window.proofs.Windows.{window-max-near}
use Rattle.theory.specs.Erosion.{highest_near}
use Rattle.theory.specs.Levels.{clearance, axis}
use Rattle.theory.proofs.Distance.{window}
use Rattle.theory.proofs.Erosion.{le-highest_near, highest_near-met}
use Rattle.theory.proofs.Levels.{clearance-off, axis-kept, axis-above}
use Rattle.theory.proofs.Plate.{on-or-off, at-cell}
use Rattle.buffers.specs.Fill.{Mapped}
use Rattle.row_filter.specs.declared.Leaf.TheVariants.{Axis}
use Rattle.row_filter.specs.Filter.{leaf}

module _ (p : Head) (m : List ℕ) (t : ℕ) (level : 1 ≤ t) where
  -- "keeps the clearance where no neighbour's is larger, and is 0 elsewhere", by the highest among a cell and its neighbours
  pub axis-highest : (c : Cell) → cond (leb (highest_near p.kind (clearance p m t) c) (clearance p m t c)) (clearance p m t c) 0 ≡ axis p m t c
  axis-highest c = go (leb (highest_near p.kind (clearance p m t) c) (clearance p m t c)) refl
    where
      larger : clearance p m t c < highest_near p.kind (clearance p m t) c
          → ((n : Cell) → Memᴰ n (neighbours p.kind c) → clearance p m t n ≤ clearance p m t c) → ⊥
      larger h none = let s = highest_near-met p.kind (clearance p m t) c in at_one s.0 s.1 s.2
        where
          at_one : (n : Cell) → Memᴰ n (window p.kind c) → clearance p m t n ≡ highest_near p.kind (clearance p m t) c → ⊥
          at_one n (Memᴰ.head e) k = omega (arith, ap (clearance p m t) e)
          at_one n (Memᴰ.tail i) k = omega (arith, none n i)

      zero-if : clearance p m t c < highest_near p.kind (clearance p m t) c → Dec (1 ≤ axis p m t c) → 0 ≡ axis p m t c
      zero-if h (yes g) = absurd (larger h (axis-above p m t level c g).1)
      zero-if h (no g) = omega arith

      go : (b : Bool) → leb (highest_near p.kind (clearance p m t) c) (clearance p m t c) ≡ b → cond b (clearance p m t c) 0 ≡ axis p m t c
      go true e = sym (axis-kept p m t level c
          (λ n i. omega (
            arith,
            leb-true (highest_near p.kind (clearance p m t) c) (clearance p m t c) e,
            le-highest_near p.kind (clearance p m t) c (Memᴰ.tail i),
          )))
      go false e = zero-if (leb-false _ _ e) (dec_le 1 (axis p m t c))

  module _ (old mid new : List ℕ) (c : Mapped p (clearance p m t) old mid) where
    -- the map of clearances has them at every cell of the plane
    at-clearance : at p mid ≡ clearance p m t
    at-clearance = fun_ext (λ d. go d (on-or-off p d))
      where
        go : (d : Cell) → On p d ⊎ ((n : List ℕ) → at p n d ≡ 0) → at p mid d ≡ clearance p m t d
        go d (inl o) = subst (λ e. at p mid e ≡ clearance p m t e) (sym o.is)
            (at-cell p mid o.column o.row o.left o.upper ∙ c.holds o.column o.row o.left o.upper)
        go d (inr z) = z mid ∙ sym (clearance-off p m t level d z)

    kept-axis : (d : Cell) → leaf Axis p.kind (window_of p mid d) ≡ axis p m t d
    kept-axis d =
        ap (λ (v : ℕ). cond (leb v (at p mid d)) (at p mid d) 0) (window-max-near p mid d)
        ∙ ap (λ (f : Cell → ℕ). cond (leb (highest_near p.kind f d) (f d)) (f d) 0) at-clearance
        ∙ axis-highest d

    pub axis-mapped : Mapped p (λ d. leaf Axis p.kind (window_of p mid d)) mid new → Mapped p (axis p m t) old new
    axis-mapped a =
        record {
          same = a.same ∙ c.same;
          holds = λ x y h l. a.holds x y h l ∙ kept-axis (cell x y);
          surplus = λ n h. a.surplus n h ∙ c.surplus n h;
        }
