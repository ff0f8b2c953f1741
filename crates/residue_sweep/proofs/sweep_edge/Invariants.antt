-- `sweep_edge` sweeps place after place of a row along the border: the invariant is `Sweep` up to the place reached.
use Rattle.residue_sweep.specs.Sweeps.{high_beside, Sweep}
use Rattle.residue_sweep.proofs.sweep_edge.Given as goal

abbrev pub invariant-loop-i : goal.invariant-loop-i
invariant-loop-i l =
    Sweep (λ n. 0) (high_beside l.kind l.beside l.start l.cur) l.start l.i l.initial.prev l.prev l.initial.marks l.marks l.deepest 0
