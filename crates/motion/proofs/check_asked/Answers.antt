-- `check_asked` tries the scale, then the number.
use Rattle.motion.proofs.Calls.{scale-refused, number-refused, none-refused}
use mathlib.Core.Path.{sym, ◌∙◌}
use Rattle.motion.proofs.check_asked.Goals as goal

pub returns-then-not-in_range : goal.returns-then-not-in_range
returns-then-not-in_range c =
    let given = c.args in
    c.refuse.ensures ∙ scale-refused given.plunges given.i given.scale
    (sym c.in_range.ensures ∙ c.if-not-in_range.true)

pub returns-then-plunges-i : goal.returns-then-plunges-i
returns-then-plunges-i c =
    let given = c.args in
    c.refuse-then-plunges-i.ensures ∙ number-refused given.plunges given.i given.scale
    (sym c.in_range.ensures ∙ c.if-not-in_range.false) c.if-plunges-i.true

pub returns : goal.returns
returns c =
    let given = c.args in
    none-refused given.plunges given.i given.scale
    (sym c.in_range.ensures ∙ c.if-not-in_range.false) c.if-plunges-i.false
