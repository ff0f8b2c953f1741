-- `area` multiplies two numbers of 32 bits.
use native.Mathlib.Omega.{arith}
use Rattle.pgm.proofs.Checks.{product-fits}
use Rattle.pgm.proofs.area.Goals as goal

pub overflow_mul-result : goal.overflow_mul-result
overflow_mul-result c =
    omega (
      arith,
      product-fits c.args.header.height.value c.args.header.width.value
          (omega arith) (omega arith),
    )
