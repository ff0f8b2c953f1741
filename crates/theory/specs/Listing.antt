-- To be believed: plunges that fit a relief, its listing, the drawing of a list and its canonical form (document 01, "Rungs, residues and listing" and "Plunge file, drawing, tidying").
-- Document 01's tidied list is the canonical form of a list.
use Rattle.std.specs.Prelude.{◌≡◌, ◌⊎◌, cond, ℕ, suc, ◌≤◌, ◌<◌, ltb}
use mathlib.Core.List.{List, [], ◌∷◌, map, Memᴰ}
use Rattle.geometry.specs.declared.Kind.{Kind}
use Rattle.geometry.specs.declared.Head.{Head}
use Rattle.geometry.specs.declared.Plunge.{Plunge}
use Rattle.geometry.specs.Lists.{Highest, gather, select, highest}
use Rattle.geometry.specs.Plane.{Cell, cell}
use Rattle.geometry.specs.Plate.{at, tabulated}
use Rattle.geometry.specs.Plunges.{Covers, Inside, OnPlate, covers}
use Rattle.theory.specs.Erosion.{erosion, residue}

-- A plunge fits a relief when "its ball is wholly on the plate, its depth is 1 or more, and each cell of the ball is at least that deep."
pub record Fits (p : Head) (m : List ℕ) (q : Plunge) : Type 0 where
  pub wholly : OnPlate p q
  pub some : 1 ≤ q.depth
  pub deep : (o : Cell) → Covers p.kind q o → q.depth ≤ at p m o

-- it fits, and lies inside no other plunge that fits
pub record Maximal (p : Head) (m : List ℕ) (q : Plunge) : Type 0 where
  pub fits : Fits p m q
  pub alone : (o : Plunge) → Fits p m o → Inside p.kind q o → o ≡ q

-- "a cell with residue k above 0 gives the plunge of reach k−1 whose depth is the cell's rung k−1 depth", here at reach r = k−1
abbrev pub listed_at : Head → List ℕ → ℕ → ℕ → ℕ → List Plunge
listed_at p m r x y =
    cond (ltb 0 (residue p m (suc r) (cell x y)))
    (record { column = x; row = y; reach = record { 0 = r }; depth = erosion p m r (cell x y) } ∷ [])
    []

-- "Nothing else is listed. Order: reach, then row, then column, all rising."
unfoldable pub listing : Head → ℕ → List ℕ → List Plunge
listing p limit m = gather limit 0 (λ r. gather p.height 0 (λ y. gather p.width 0 (λ x. listed_at p m r x y)))

abbrev pub Before : Plunge → Plunge → Type 0
Before q o =
    (q.reach.0 < o.reach.0)
    ⊎ ((q.reach.0 ≡ o.reach.0) × ((q.row < o.row) ⊎ ((q.row ≡ o.row) × (q.column < o.column))))

-- each stands before all that follow it, so none stands twice
abbrev pub Rising : List Plunge → Type 0
Rising [] = Unit {0}
Rising (q ∷ qs) = ((o : Plunge) → Memᴰ o qs → Before q o) × Rising qs

-- Drawing: "each cell gets the highest depth among plunges whose ball holds it, 0 if none." The property, and the number that has it
abbrev pub IsDrawn : Kind → List Plunge → Cell → ℕ → Type 0
IsDrawn kd qs c v =
    Highest (λ q. Memᴰ q qs × Covers kd q c) (λ q. q.depth) v
    ⊎ (((q : Plunge) → Memᴰ q qs → Covers kd q c → ⊥) × (v ≡ 0))

unfoldable pub drawn : Kind → List Plunge → Cell → ℕ
drawn kd qs c = highest 0 (map (λ q. q.depth) (select (λ q. covers kd q c) qs))

abbrev pub drawing : Head → List Plunge → List ℕ
drawing p qs = tabulated p (drawn p.kind qs)

-- "Tidying draws, then lists."
abbrev pub canonical : Head → ℕ → List Plunge → List Plunge
canonical p limit qs = listing p limit (drawing p qs)
