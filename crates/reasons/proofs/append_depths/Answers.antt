-- `append_depths` puts two phrases, one behind the other; a product of two bytes fits.
use native.Mathlib.Nat.{mul-le-mul}
use native.Mathlib.Omega.{arith}
use Rattle.phrases.proofs.Appends.{appended_then}
use Rattle.reasons.proofs.append_depths.Goals as goal

pub overflow_mul-cells : goal.overflow_mul-cells
overflow_mul-cells c = omega (arith, mul-le-mul c.byte_behind.ensures.1 c.byte_behind-2.ensures.1)

pub returns : goal.returns
returns c =
    rw (
      ← c.depth_count.ensures,
      ← c.byte_behind.ensures.0,
      ← c.byte_behind-2.ensures.0,
    )
    (appended_then c.requires c.append_phrase-next.ensures
    c.append_phrase.ensures)
