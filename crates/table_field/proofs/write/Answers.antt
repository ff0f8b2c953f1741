-- `write` tries the rule, then the room, and only then writes.
use mathlib.Core.Path.{sym, ◌∙◌, subst}
use Rattle.refusal.proofs.Refusals.{passed-on}
use Rattle.refusal.specs.Refusals.{Answered}
use Rattle.table_field.proofs.Loads.{write-broken, write-short, write_done}
use Rattle.table_field.proofs.write.Goals as goal

pub returns-then-out-lt-TABLE_BYTES : goal.returns-then-out-lt-TABLE_BYTES
returns-then-out-lt-TABLE_BYTES c =
    let given = c.args in
    subst (Answered _ _ _ _) (sym c.refuse.ensures) (write-short given.table.now given.out.now
    (sym c.in_ok-check_rule.was ∙ c.check_rule.ensures) c.if-out-lt-TABLE_BYTES.true)

pub returns : goal.returns
returns c =
    let given = c.args in
    write_done given.table.now given.out.now (sym c.in_ok-check_rule.was ∙ c.check_rule.ensures)
    c.put_field.new.out c.if-out-lt-TABLE_BYTES.false c.put_field.ensures

pub returns-in_err-check_rule : goal.returns-in_err-check_rule
returns-in_err-check_rule c =
    let given = c.args in
    subst (Answered _ _ _ _) (sym (passed-on _ _ c.from_residual.ensures.1))
    (write-broken given.table.now given.out.now _ (sym c.in_err-check_rule.was ∙ c.check_rule.ensures))
