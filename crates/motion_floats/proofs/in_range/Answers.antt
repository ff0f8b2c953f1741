-- `in_range` tries the three ranges, one after the other.
use mathlib.Core.Path.{sym, ◌∙◌}
use Rattle.sink.proofs.Literals.{literal-4, literal-0, literal-1000}
use Rattle.motion_floats.proofs.Literals.{literal-sixteenth}
use Rattle.motion_floats.proofs.in_range.Goals as goal

pub returns-then-is_within-2 : goal.returns-then-is_within-2
returns-then-is_within-2 c =
    simp (
      ← literal-sixteenth,
      ← literal-4,
      ← literal-0,
      ← literal-1000,
      sym c.is_within.ensures ∙ c.if-is_within.true,
      sym c.is_within-then-is_within.ensures ∙ c.if-is_within-2.true,
      c.is_within-then-is_within-2.ensures,
    )

pub returns-else-is_within-2 : goal.returns-else-is_within-2
returns-else-is_within-2 c =
    simp (
      ← literal-sixteenth,
      ← literal-4,
      ← literal-0,
      ← literal-1000,
      sym c.is_within.ensures ∙ c.if-is_within.true,
      sym c.is_within-then-is_within.ensures ∙ c.if-is_within-2.false,
    )

pub returns-else-is_within : goal.returns-else-is_within
returns-else-is_within c =
    simp
    (← literal-sixteenth, ← literal-4, ← literal-0, ← literal-1000, sym c.is_within.ensures ∙ c.if-is_within.false)
