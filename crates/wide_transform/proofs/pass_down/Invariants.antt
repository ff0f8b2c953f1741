-- `pass_down` does so for every row: the invariant is `DownTo` the row reached.
use Rattle.row_arrays.specs.Start.{wall_number, start}
use Rattle.wide_rows.specs.Wide.{wide_numbers, wide_wall}
use Rattle.distance_transform.proofs.Passes.{DownTo}
use Rattle.wide_transform.specs.Passes.{WideOnly}
use Rattle.wide_transform.proofs.pass_down.Given as goal

abbrev pub invariant-loop-y : goal.invariant-loop-y
invariant-loop-y l =
    DownTo l.head (start l.head (wall_number wide_wall l.level) l.relief) l.y (wide_numbers l.initial.out) l.row l.spare l.above (wide_numbers l.out) × WideOnly l.head l.initial.out l.out
