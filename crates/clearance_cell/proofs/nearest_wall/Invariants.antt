-- `nearest_wall` searches row by row: the invariant is `Searched` of the rows that are nearer than the one reached.
use Prim.Native.Nat.{◌-◌}
use Rattle.clearance_cell.proofs.Search.{Searched}
use Rattle.clearance_cell.proofs.nearest_wall.Given as goal

abbrev pub invariant-loop-away : goal.invariant-loop-away
invariant-loop-away l =
    Searched (record { kind = l.kind; width = l.width; height = l.height }) l.map l.level l.column l.row l.away l.best

abbrev pub decreases-loop-away : goal.decreases-loop-away
decreases-loop-away l = l.best - l.away
