-- To be believed: the two scores of a cell (document 01, "Scores and volume").
use Rattle.std.specs.Prelude.{List, ℕ}
use Rattle.geometry.specs.declared.Head.{Head}
use Rattle.geometry.specs.Plane.{Cell}
use Rattle.theory.specs.Erosion.{largest_residue, residue_sum}
use Rattle.residue_scores.specs.declared.Score.{Score}
use Rattle.residue_scores.specs.declared.Score.TheVariants.{Largest, Sum}

-- a cell's score over the residues 1 to a limit
abbrev pub score_of : Score → Head → ℕ → List ℕ → Cell → ℕ
score_of Largest = largest_residue
score_of Sum = residue_sum
