-- `square_row` is `square_run` on the columns between the edges.
use native.Mathlib.Omega.{arith}
use Rattle.row_filter.proofs.InPlace.{row-and-below}
use Rattle.square_filter.proofs.square_row.Goals as goal

-- the row's columns between the edges lie in the map, with those below them

pub overflow_mul-y : goal.overflow_mul-y
overflow_mul-y c = omega (arith, row-and-below _ _ _ _ _ c.requires)

pub overflow_add-y : goal.overflow_add-y
overflow_add-y c = omega (arith, row-and-below _ _ _ _ _ c.requires)

pub square_run-requires : goal.square_run-requires
square_run-requires c =
    record {
      some = omega (arith, c.requires.columns);
      narrow = omega (arith, c.requires.sides.narrow);
      size = c.requires.size;
      room = row-and-below _ _ _ _ _ c.requires;
    }
