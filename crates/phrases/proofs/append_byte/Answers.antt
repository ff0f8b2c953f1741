-- `append_byte` puts a byte or its escape.
use mathlib.Core.Path.{sym, subst, ◌∙◌}
use Rattle.phrases.proofs.Appends.{Appended, shown-plain, shown-octal}
use Rattle.phrases.proofs.append_byte.Goals as goal

pub returns-then-is_plain : goal.returns-then-is_plain
returns-then-is_plain c =
    let given = c.args in
    subst
    (λ t. Appended given.page.now given.at t c.append.new.page c.append.result)
    (sym (shown-plain given.byte (sym c.is_plain.ensures ∙ c.if-is_plain.true)))
    c.append.ensures

pub returns : goal.returns
returns c =
    let given = c.args in
    subst
    (λ t. Appended given.page.now given.at t c.append-2.new.page c.append-2.result)
    (sym (shown-octal given.byte (sym c.is_plain.ensures ∙ c.if-is_plain.false)))
    (rw (← c.octal.ensures, ← c.octal-2.ensures, ← c.octal-3.ensures)
    c.append-2.ensures)
