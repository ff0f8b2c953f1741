-- How far apart two cells of a plate can be.
use Prim.Native.Nat.{ℕ, ◌+◌, ◌≤◌}
use native.Mathlib.Omega.{arith}
use Rattle.geometry.specs.declared.Kind.{Kind}
use Rattle.geometry.specs.declared.Kind.TheVariants.{Diamond, Square}
use Rattle.geometry.specs.Plane.{cell, dist}

pub dist-at-most : (kd : Kind) (x y u v : ℕ) → dist kd (cell x y) (cell u v) ≤ x + y + u + v
dist-at-most Diamond x y u v = omega arith
dist-at-most Square x y u v = omega arith
