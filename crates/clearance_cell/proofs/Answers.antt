-- From the verdict to the answer: what an accepted call knows of its cell, that its clearance fits a byte, and the answer of every verdict.
use Rattle.std.specs.Prelude.{Ok}
use mathlib.Core.Path.{◌≡◌, refl, sym, ap, ◌∙◌}
use mathlib.Core.Bool.{Bool, true, false, cond, not}
use mathlib.Core.List.{List, [], ◌∷◌}
use Prim.Native.Nat.{ℕ, ◌≤◌, ◌<◌}
use native.Mathlib.Omega.{arith}
use borrow.Author.Tests.{ltb-true, not-false}
use lib.Dec.{ltb}
use lib.ListN.{length}
use Rattle.geometry.specs.declared.Head.{Head}
use Rattle.geometry.specs.Plane.{cell}
use Rattle.theory.specs.Levels.{clearance}
use Rattle.theory.proofs.Levels.{clearance-limit}
use Rattle.refusal.specs.Refusals.{first_met, map_trials, is_level, head_of, largest_erosion}
use Rattle.refusal.proofs.Refusals.{map-sound, level-ok}
use Rattle.clearance_cell.specs.Search.{Searchable}
use Rattle.clearance_cell.specs.Calls.{clearance_answer, cell_answer, wrong_cell}
use Rattle.refusal.specs.Refusals.{Verdict}

-- a level, and a cell of a plate of two sides
pub record Right (t x y w h : ℕ) : Type 0 where
  pub level : 1 ≤ t
  pub byte : t ≤ 255
  pub left : x < w
  pub upper : y < h

pub right-cell : (t x y w h : ℕ) → wrong_cell t x y w h ≡ false → Right t x y w h
right-cell t x y w h = go (is_level t) (ltb x w) refl refl
  where
    go : (a b : Bool) → is_level t ≡ a → ltb x w ≡ b → cond a (cond b (not (ltb y h)) true) true ≡ false → Right t x y w h
    go true true e g z =
        let l = level-ok t (ap not e) in
        record { level = l.0; byte = l.1; left = ltb-true _ _ g; upper = ltb-true _ _ (not-false _ z) }
    go true false e g z = let n : ◌≡◌ {A = ℕ} 0 1 = cc in absurd (omega arith)
    go false b e g z = let n : ◌≡◌ {A = ℕ} 0 1 = cc in absurd (omega arith)

-- what the search asks of a plate, a map, a level and a cell; its answer fits a byte
pub record Ready (p : Head) (m : List ℕ) (t x y : ℕ) : Type 0 where
  pub asked : Searchable p m t x y
  pub fits : clearance p m t (cell x y) ≤ largest_erosion

-- the verdict of a call, with the test of its level and cell
pub record Judged (m : List ℕ) (k w h t x y : ℕ) (v : Verdict) : Type 0 where
  pub wrong : Bool
  pub tested : wrong ≡ wrong_cell t x y w h
  pub first : v ≡ first_met (map_trials k w h wrong (length m ∷ []))

module _ {m : List ℕ} {k w h t x y : ℕ} {v : Verdict} (j : Judged m k w h t x y v) where
  pub accepted : v ≡ Ok tt → Ready (head_of k w h) m t x y
  accepted e =
      let s = map-sound k w h j.wrong (length m) (sym j.first ∙ e) in
      let r = right-cell t x y w h (sym j.tested ∙ s.right) in
      record {
        asked = record { level = r.level; left = r.left; upper = r.upper; long = s.long };
        fits = clearance-limit (head_of k w h) m t r.level largest_erosion (omega (arith, s.narrow)) (cell x y);
      }

  pub answered : cell_answer v (clearance (head_of k w h) m t (cell x y)) ≡ clearance_answer m k w h t x y
  answered = rw (j.first, j.tested)
