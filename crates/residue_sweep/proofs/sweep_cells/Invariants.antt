-- `sweep_cells` sweeps place after place, each cell by its own window: the invariant is `Sweep` up to the place reached.
use Rattle.residue_sweep.specs.Sweeps.{low_near, high_near, Sweep}
use Rattle.residue_sweep.proofs.sweep_cells.Given as goal

abbrev pub invariant-loop-i : goal.invariant-loop-i
invariant-loop-i l =
    Sweep (low_near l.head l.cur) (high_near l.head l.cur) l.start l.i l.initial.prev l.prev l.initial.marks l.marks l.deepest l.top
