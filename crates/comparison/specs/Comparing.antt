-- To be believed: whether two job files cut the same relief, and the first cell where they do not.
use Rattle.std.specs.Prelude.{◌≡◌, cond, List, ℕ, ◌/◌, ◌%◌, eqb, ltb, get_or, Ok, Err}
use Rattle.geometry.specs.Forms.{kind_byte}
use Rattle.geometry.specs.Lists.{common}
use Rattle.geometry.specs.Plate.{area}
use Rattle.refusal.specs.Refusals.{written}
use Rattle.reading.specs.Reading.{head_in}
use Rattle.jobs.specs.Calls.{relief, draw_verdict}
use Rattle.comparison.specs.declared.Difference.{Difference}
use Rattle.comparison.specs.declared.Comparison.{Comparison}
use Rattle.comparison.specs.declared.Comparison.TheVariants.{Same, OtherKind, OtherSize, OtherCell, FirstRefused, SecondRefused}
use Rattle.refusal.specs.Refusals.{Verdict}

-- the cell at a place of two reliefs, with the depth in each
abbrev pub difference_at : List ℕ → List ℕ → ℕ → Difference
difference_at f g i =
    record { column = i % (head_in f).width; row = i / (head_in f).width; first = get_or (relief f) i 0; second = get_or (relief g) i 0 }

-- row after row: the first cell whose depths differ, if there is one
abbrev pub reliefs_compared : List ℕ → List ℕ → Comparison
reliefs_compared f g =
    cond (ltb (common (relief f) (relief g)) (area (head_in f))) (OtherCell (difference_at f g (common (relief f) (relief g)))) Same

-- kind, then width and height, then the reliefs
abbrev pub compared : List ℕ → List ℕ → Comparison
compared f g =
    cond (eqb (kind_byte (head_in f).kind) (kind_byte (head_in g).kind))
    (cond (eqb (head_in f).width (head_in g).width) (cond (eqb (head_in f).height (head_in g).height) (reliefs_compared f g) OtherSize) OtherSize) OtherKind

-- the first file's refusal, then the second's
abbrev pub comparison_of : Verdict → Verdict → List ℕ → List ℕ → Comparison
comparison_of (Err r) v f g = FirstRefused r
comparison_of (Ok _) (Err r) f g = SecondRefused r
comparison_of (Ok _) (Ok _) f g = compared f g

-- each file is drawn into a map of its own: its faults, then 4
abbrev pub comparison : List ℕ → List ℕ → List ℕ → List ℕ → Comparison
comparison f g a b = comparison_of (draw_verdict f a) (draw_verdict g b) f g

-- the second map is drawn only after the first
abbrev pub second_written : Verdict → Verdict → List ℕ → List ℕ → List ℕ
second_written (Err r) v new old = old
second_written (Ok _) v new old = written v new old

-- a call that compares: its answer, and what it leaves in both maps
pub record CompareCall (f g a a' b b' : List ℕ) (r : Comparison) : Type 0 where
  pub answer : r ≡ comparison f g a b
  pub first : a' ≡ written (draw_verdict f a) (relief f) a
  pub second : b' ≡ second_written (draw_verdict f a) (draw_verdict g b) (relief g) b
