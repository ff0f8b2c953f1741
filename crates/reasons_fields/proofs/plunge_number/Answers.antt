use Prim.Native.Nat.{◌-◌, ◌/◌}
use Rattle.reasons_fields.proofs.plunge_number.Goals as goal

pub returns : goal.returns
returns c =
    (λ i. (c.args.place - c.head_bytes-start.ensures i) / c.plunge_bytes.ensures i)
