-- `residue_run` fills with joined residues: the invariant is `Filled` up to the place reached.
use Prim.Native.Nat.{◌-◌}
use lib.ListN.{get_or}
use Rattle.window.specs.Windows.{window_max}
use Rattle.window.specs.Places.{window_in}
use Rattle.buffers.specs.Fill.{Filled}
use Rattle.residue_scores.specs.Residues.{joined_score}
use Rattle.residue_scores.proofs.residue_run.Given as goal

abbrev pub invariant-loop-n : goal.invariant-loop-n
invariant-loop-n l =
    Filled (λ n. joined_score l.score (get_or l.initial.out n 0) (get_or l.prev n 0 - window_max l.kind (window_in l.cur l.width n))) l.from l.n l.initial.out l.out
