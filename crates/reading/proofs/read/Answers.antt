use Rattle.std.proofs.Common.{rules}
use Rattle.reading.proofs.FieldSteps.{head-begins, head-narrow, read-on, read-fault}
use mathlib.Core.Path.{sym, ◌∙◌}
use Rattle.reading.proofs.read.Goals as goal

pub read_fields-requires : goal.read_fields-requires
read_fields-requires c =
    let right = sym c.check_head.ensures ∙ c.in_ok-check_head.was in (
      head-begins c.args.file.now _ c.head_in.ensures right,
      c.head_in.ensures,
      head-narrow c.args.file.now _ c.head_in.ensures right,
    )

pub returns : goal.returns
returns c =
    c.read_fields.ensures ∙ read-on c.args.file.now _ c.head_in.ensures
    (sym c.check_head.ensures ∙ c.in_ok-check_head.was)

pub returns-in_err-check_head : goal.returns-in_err-check_head
returns-in_err-check_head c =
    let fault = read-fault c.args.file.now _ (sym c.check_head.ensures ∙ c.in_err-check_head.was) in search rules
