-- `append_of_scale` tries the ranges of the half pitch and of the column offset.
use mathlib.Core.Path.{sym, ◌∙◌}
use Rattle.motion_floats.proofs.Literals.{literal-sixteenth}
use Rattle.sink.proofs.Literals.{literal-4, literal-0, literal-1000}
use Rattle.reasons.specs.Reasons.{of_scale}
use Rattle.reasons.proofs.append_of_scale.Goals as goal

pub returns-then-is_within-2 : goal.returns-then-is_within-2
unfolding of_scale
returns-then-is_within-2 c =
    rw (
      ← literal-sixteenth,
      ← literal-4,
      ← literal-0,
      ← literal-1000,
      sym c.is_within.ensures ∙ c.if-is_within.true,
      sym c.is_within-then-is_within.ensures ∙ c.if-is_within-2.true,
    ) c.append.ensures

pub returns-then-is_within : goal.returns-then-is_within
unfolding of_scale
returns-then-is_within c =
    rw (
      ← literal-sixteenth,
      ← literal-4,
      ← literal-0,
      ← literal-1000,
      sym c.is_within.ensures ∙ c.if-is_within.true,
      sym c.is_within-then-is_within.ensures ∙ c.if-is_within-2.false,
    ) c.append-then-is_within.ensures

pub returns : goal.returns
unfolding of_scale
returns c =
    rw (← literal-sixteenth, ← literal-4, sym c.is_within.ensures ∙ c.if-is_within.false)
    c.append-2.ensures
