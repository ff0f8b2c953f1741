use mathlib.Core.Path.{sym, ◌∙◌}
use Rattle.table_field.proofs.Rules.{tried-none, tried-more}
use Rattle.table_field.proofs.check_rule.Goals as goal

pub loop-i-init : goal.loop-i-init
loop-i-init c = tried-none c.args.table.now

pub loop-i-preserved : goal.loop-i-preserved
loop-i-preserved c =
    tried-more c.args.table.now c.loop-i.i c.loop-i.invariant c.loop-i-test.true
    (sym c.breaks_rule.ensures ∙ c.if-breaks_rule.false)
