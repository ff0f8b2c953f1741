-- `sweep_run` sweeps place after place: the invariant is `Sweep` up to the place reached.
use Rattle.residue_sweep.specs.Sweeps.{low_in, high_in, Sweep}
use Rattle.residue_sweep.proofs.sweep_run.Given as goal

abbrev pub invariant-loop-i : goal.invariant-loop-i
invariant-loop-i l =
    Sweep (low_in l.kind l.width l.cur) (high_in l.kind l.width l.cur) l.start l.i l.initial.prev l.prev l.initial.marks l.marks l.deepest l.top
