-- `highest` goes over the map: the invariant is `Tops` up to the place reached.
use Rattle.residue_series.specs.Stands.{Tops}
use Rattle.residue_series.proofs.highest.Given as goal

abbrev pub invariant-loop-i : goal.invariant-loop-i
invariant-loop-i l = Tops l.i l.map l.top
