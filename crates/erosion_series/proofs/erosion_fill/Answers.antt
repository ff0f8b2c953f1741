-- `erosion_fill` copies the buffer that has the erosion, by the parity of the steps made.
use native.Mathlib.Omega.{arith}
use Rattle.erosion_series.proofs.Scores.{eroded-to-same, held_mapped}
use Rattle.erosion_series.proofs.erosion_fill.Goals as goal

pub returns-then-k-eq0 : goal.returns-then-k-eq0
returns-then-k-eq0 c =
    let given = c.args in
    let e = c.erode_to-k.ensures in
    record {
      map = held_mapped given.head given.relief.now given.number c.erode_to-k.result _ _ _
          (e.pair.even c.if-k-eq0.true).held
          (eroded-to-same given.head given.relief.now given.number c.erode_to-k.result e.upto
          e.ended) c.copy_run.ensures;
      first = e.first;
      second = e.second;
    }

pub returns : goal.returns
returns c =
    let given = c.args in
    let e = c.erode_to-k.ensures in
    record {
      map = held_mapped given.head given.relief.now given.number c.erode_to-k.result _ _ _
          (e.pair.odd (omega arith)).held
          (eroded-to-same given.head given.relief.now given.number c.erode_to-k.result e.upto
          e.ended) c.copy_run-2.ensures;
      first = e.first;
      second = e.second;
    }
