-- `step` goes by what the byte is.
use Rattle.std.proofs.Common.{sym, ◌∙◌}
use Rattle.decimal.proofs.Scans.{step-digit, step-point, step_other}
use Rattle.decimal.proofs.step.Goals as goal

pub returns-then-is_digit : goal.returns-then-is_digit
returns-then-is_digit c =
    c.with_digit.ensures ∙ step-digit c.args.s c.args.b (sym c.is_digit.ensures ∙ c.if-is_digit.true)

pub returns-then-b-eq46 : goal.returns-then-b-eq46
returns-then-b-eq46 c =
    c.with_point.ensures ∙ step-point c.args.s c.args.b (sym c.is_digit.ensures ∙ c.if-is_digit.false) c.if-b-eq46.true

pub returns-else-b-eq46 : goal.returns-else-b-eq46
returns-else-b-eq46 c =
    c.spoil.ensures ∙ step_other c.args.s c.args.b (sym c.is_digit.ensures ∙ c.if-is_digit.false) c.if-b-eq46.false
