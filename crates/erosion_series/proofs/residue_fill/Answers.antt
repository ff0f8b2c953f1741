-- `residue_fill` zeroes the output and joins the one residue, if the series came so far.
use Prim.Native.Nat.{ℕ}
use mathlib.Core.Path.{subst}
use native.Mathlib.Omega.{arith}
use Rattle.theory.specs.Erosion.{residue}
use Rattle.buffers.specs.Fill.{Mapped}
use Rattle.erosion_series.proofs.Scores.{pair-to-score, residue-mapped, residue-short}
use Rattle.erosion_series.proofs.residue_fill.Goals as goal

pub residue_pair-requires : goal.residue_pair-requires
residue_pair-requires c =
    let e = c.erode_to-k.ensures in
    pair-to-score _ _ _ _ _ _ e.pair (e.some c.requires.0) (omega (arith, e.upto))
    (omega (arith, c.zero_run.ensures.same))

pub returns-then-k-number : goal.returns-then-k-number
returns-then-k-number c =
    let given = c.args in
    let e = c.erode_to-k.ensures in
    record {
      map = subst
          (λ (j : ℕ). Mapped given.head (residue given.head given.relief.now j) given.out.now
          c.residue_pair.new.out)
          c.if-k-number.true
          (residue-mapped _ _ _ _ _ _ _ _ (e.some c.requires.0) e.pair c.zero_run.ensures
          c.residue_pair.ensures);
      first = e.first;
      second = e.second;
    }

pub returns-else-k-number : goal.returns-else-k-number
returns-else-k-number c =
    let given = c.args in
    let e = c.erode_to-k.ensures in
    record {
      map = residue-short given.head given.relief.now given.number c.erode_to-k.result _ _
          c.requires.0 e.upto c.if-k-number.false e.ended c.zero_run.ensures;
      first = e.first;
      second = e.second;
    }
