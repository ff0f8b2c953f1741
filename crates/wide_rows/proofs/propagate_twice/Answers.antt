-- `propagate_twice` widens what is known by four: a doubling into the spare row and a doubling back.
use Rattle.row_arrays.proofs.Rows.{widened_twice}
use Rattle.wide_rows.proofs.propagate_twice.Goals as goal

pub returns : goal.returns
returns c =
    widened_twice _ _ _ _ _ _ c.requires.1.row-margins c.requires.1.spare-margins c.propagate_step.ensures
    c.propagate_step-2.ensures c.requires.0
