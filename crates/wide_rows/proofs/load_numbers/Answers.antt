use mathlib.Core.Path.{sym, ◌∙◌}
use Prim.Native.Nat.{◌+◌, ◌-◌}
use native.Mathlib.Omega.{arith}
use Rattle.buffers.proofs.Fill.{filled_more}
use Rattle.row_arrays.specs.Rows.{margin}
use Rattle.wide_rows.proofs.Wide.{get_or-wide}
use Rattle.wide_rows.proofs.load_numbers.Goals as goal

pub loop-n-preserved : goal.loop-n-preserved
loop-n-preserved c =
    let given = c.args in
    filled_more _ _ _ _ _ _ c.loop-n.invariant (omega arith) (omega arith)
    (c.of_bytes.ensures ∙ sym (get_or-wide given.map.now (given.from + (c.loop-n.n - margin)) (omega arith)))
