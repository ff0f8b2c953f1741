use mathlib.Core.Path.{ap, ◌∙◌}
use Prim.Native.Nat.{◌-◌, ◌/◌, ◌%◌}
use native.Mathlib.Omega.{arith}
use Rattle.wide_rows.specs.Wide.{wide_wall}
use Rattle.wide_rows.proofs.Wide.{wide-more, wide-next}
use Rattle.wide_transform.proofs.finish_run.Goals as goal

pub loop-n-preserved : goal.loop-n-preserved
loop-n-preserved c =
    let old = wide-next _ _ _ _ _ _ c.loop-n.invariant (omega arith) c.of_bytes-distance.ensures in
    wide-more _ _ _ _ _ _ _ c.loop-n.invariant (omega arith) (omega arith)
    (c.first_byte.ensures ∙ ap (λ v. (wide_wall - v) / 256) old)
    (c.second_byte.ensures ∙ ap (λ v. (wide_wall - v) % 256) old)
