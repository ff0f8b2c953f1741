-- `put_motion` puts the line of its case.
use mathlib.Core.Path.{subst}
use Prim.Native.Nat.{◌+◌, ◌≤◌}
use lib.ListN.{length}
use Rattle.motion_floats.specs.declared.Motion.{Motion}
use Rattle.motion_text.specs.Lines.{motion_line}
use Rattle.motion_text.proofs.put_motion.Goals as goal

pub put_bytes-requires : goal.put_bytes-requires
put_bytes-requires c =
    let given = c.args in
    subst (λ (m : Motion). given.at + length (motion_line m) ≤ length given.page.now) c.in-Stay.is c.requires
