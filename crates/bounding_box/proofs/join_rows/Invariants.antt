-- `join_rows` joins row after row: the invariant is `Topped` up to the row reached.
use mathlib.Core.Path.{◌≡◌}
use lib.ListN.{length}
use Rattle.refusal.specs.Refusals.{largest_side}
use Rattle.bounding_box.specs.Boxes.{Topped}
use Rattle.bounding_box.proofs.join_rows.Given as goal

abbrev pub invariant-loop-y : goal.invariant-loop-y
invariant-loop-y l = (length l.columns ≡ largest_side)
    × (length l.rows ≡ largest_side) × Topped l.width l.y l.map l.columns l.rows
