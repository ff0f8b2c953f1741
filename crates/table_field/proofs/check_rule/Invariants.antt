-- `check_rule` tries entry after entry.
use Rattle.table_field.proofs.Rules.{Tried}
use Rattle.table_field.proofs.check_rule.Given as goal

abbrev pub invariant-loop-i : goal.invariant-loop-i
invariant-loop-i l = Tried l.table l.i
