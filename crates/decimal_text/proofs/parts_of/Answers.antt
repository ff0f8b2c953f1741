-- `parts_of` cuts the float's digits at the point.
use native.Mathlib.Omega.{arith}
use Rattle.decimal_text.proofs.Sizes.{unit-most, parts_are, parts-fit}
use Prim.Native.Nat.{◌+◌, ◌^◌}
use Rattle.decimal_text.proofs.parts_of.Goals as goal

pub overflow_mul-result : goal.overflow_mul-result
overflow_mul-result c =
    omega (
      arith,
      c.power-unit.ensures,
      unit-most c.args.field c.requires.0 c.requires.1,
    )

pub overflow_mul-result-2 : goal.overflow_mul-result-2
overflow_mul-result-2 c =
    omega (
      arith,
      parts-fit c.args.field c.requires.0 c.requires.1
          (2 ^ 52 + c.args.below) c.power-unit.result c.power-cut.result
          c.power-unit.ensures c.power-cut.ensures,
    )

pub half_gap-requires : goal.half_gap-requires
half_gap-requires c =
    omega (
      arith,
      c.power-unit.ensures,
      unit-most c.args.field c.requires.0 c.requires.1,
    )

pub returns : goal.returns
returns c =
    parts_are c.args.field c.requires.0 c.requires.1 c.args.below
    c.power-unit.result c.power-cut.result c.half_gap.result
    c.power-unit.ensures c.power-cut.ensures c.half_gap.ensures
