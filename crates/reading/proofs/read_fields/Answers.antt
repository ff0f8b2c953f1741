use mathlib.Core.Path.{sym, ◌∙◌}
use Rattle.reading.proofs.FieldSteps.{turned, stopped, faulted}
use Rattle.reading.proofs.read_fields.Goals as goal

pub loop-n-preserved : goal.loop-n-preserved
loop-n-preserved c =
    turned c.args.head c.args.file.now c.loop-n.n c.loop-n.invariant
    (sym c.field_at-step.ensures ∙ c.in-Onward.is)

pub returns-in-Ended : goal.returns-in-Ended
returns-in-Ended c =
    stopped c.args.head c.args.file.now c.loop-n.n c.loop-n.invariant
    c.requires.1 (sym c.field_at-step.ensures ∙ c.in-Ended.is)

pub returns-in-Fault : goal.returns-in-Fault
returns-in-Fault c =
    faulted c.args.head c.args.file.now c.loop-n.n c.loop-n.invariant _
    (sym c.field_at-step.ensures ∙ c.in-Fault.is)
