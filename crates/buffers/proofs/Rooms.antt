-- Laws of room: where rows and runs of places lie in a buffer that holds a plate.
use mathlib.Core.List.{List}
use Prim.Native.Nat.{ℕ, suc, ◌+◌, ◌*◌, ◌-◌, ◌≤◌, ◌<◌}
use native.Mathlib.Omega.{arith}
use native.Mathlib.Nat.{suc-mul, one-mul, mul-le-mul_right}
use lib.ListN.{length}
use Rattle.buffers.specs.Runs.{Interior}

-- a row lies within
pub row_room : (w y h n : ℕ) → y < h → h * w ≤ n → y * w + w ≤ n
row_room w y h n l r = omega (arith, mul-le-mul_right w l, suc-mul y w)

-- so does each cell of it
pub cell_room : (w x y h n : ℕ) → x < w → y < h → h * w ≤ n → y * w + x < n
cell_room w x y h n a b r = omega (arith, row_room w y h n b r)

-- the rows from a up to b, with a row before them and a row after them
pub record RowsRoom (w a b n : ℕ) : Type 0 where
  pub under : w ≤ a * w
  pub ordered : a * w + w ≤ b * w
  pub over : b * w + w ≤ n

pub rows-room : (w a b h n : ℕ) → 1 ≤ a → a < b → b < h → h * w ≤ n → RowsRoom w a b n
rows-room w a b h n f o l r =
    record {
      under = omega (arith, mul-le-mul_right w f, one-mul w);
      ordered = row_room w a b (b * w) o (omega arith);
      over = row_room w b h n l r;
    }

-- a row that is neither the first nor the last, with the rows beside it
pub inner_room : (w y h n : ℕ) → 1 ≤ y → y + 1 < h → h * w ≤ n → (w ≤ y * w) × (y * w + w + w ≤ n)
inner_room w y h n a b r =
    let s : RowsRoom w y (suc y) n = rows-room w y (suc y) h n a (omega arith) (omega arith) r in
    (s.under, omega (arith, s.over, suc-mul y w))

-- the columns of such a row that do not touch the plate's edge
pub inner-interior : (w y h : ℕ) (m : List ℕ) → 3 ≤ w → 1 ≤ y → y + 1 < h → h * w ≤ length m → Interior w (y * w + 1) (y * w + w - 1) m
inner-interior w y h m c a b r =
    let s = inner_room w y h (length m) a b r in
    record { under = omega (arith, s.0); ordered = omega arith; over = omega (arith, s.1) }
