-- To be believed: erosions of a relief, their residues, scores, and the volume (document 01, "Rungs, residues and listing" and "Scores and volume"; source 002).
-- Document 01's rung is the field's erosion. A limit stands for its largest rung number, 120, so that every law holds for any.
use Rattle.std.specs.Prelude.{List, [], ◌∷◌, map, ℕ, zero, suc, ◌-◌}
use Rattle.geometry.specs.declared.Kind.{Kind}
use Rattle.geometry.specs.declared.Head.{Head}
use Rattle.geometry.specs.Lists.{Lowest, gather, lowest, highest, sum}
use Rattle.geometry.specs.Plane.{Cell, Ball, ball, neighbours}
use Rattle.geometry.specs.Plate.{at, tabulated}

-- Rung k depth of a cell: "the lowest depth within distance k of it, off-plate cells included." The property, and the number that has it
abbrev pub IsErosion : Head → List ℕ → ℕ → Cell → ℕ → Type 0
IsErosion p m k c = Lowest (Ball p.kind c k) (at p m)

unfoldable pub erosion : Head → List ℕ → ℕ → Cell → ℕ
erosion p m k c = lowest (at p m c) (map (at p m) (ball p.kind c k))

-- the highest of f "among the cell and its neighbours"
abbrev pub highest_near : Kind → (Cell → ℕ) → Cell → ℕ
highest_near kd f c = highest (f c) (map f (neighbours kd c))

-- Residue k: "rung k−1 depth minus the highest rung k depth among the cell and its neighbours."
unfoldable pub residue : Head → List ℕ → ℕ → Cell → ℕ
residue p m zero c = 0
residue p m (suc k) c = erosion p m k c - highest_near p.kind (erosion p m (suc k)) c

-- the residues of a cell, "over k from 1" to the limit
abbrev pub residues : Head → ℕ → List ℕ → Cell → List ℕ
residues p limit m c = gather limit 1 (λ k. residue p m k c ∷ [])

-- "A cell's largest-residue score is its largest residue, its sum score the sum of its residues"
unfoldable pub largest_residue : Head → ℕ → List ℕ → Cell → ℕ
largest_residue p limit m c = highest 0 (residues p limit m c)

unfoldable pub residue_sum : Head → ℕ → List ℕ → Cell → ℕ
residue_sum p limit m c = sum (residues p limit m c)

-- "Volume is the sum of all depths."
unfoldable pub volume : Head → List ℕ → ℕ
volume p m = sum (tabulated p (at p m))
