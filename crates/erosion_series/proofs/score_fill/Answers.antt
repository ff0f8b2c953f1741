use Prim.Native.Nat.{◌+◌}
use mathlib.Core.Logic.{inl, inr}
use native.Mathlib.Omega.{arith}
use borrow.Author.Rules.{rules}
use Rattle.refusal.specs.Refusals.{largest_erosion}
use Rattle.erosion_series.proofs.Pairs.{kept-copy, kept_more, held_start, eroding-start, eroding-asks, eroding-more, eroding-empty}
use Rattle.erosion_series.proofs.Scores.{pair-to-score, score-none, score-more, score-done}
use Rattle.erosion_series.proofs.score_fill.Goals as goal

pub zero_run-requires : goal.zero_run-requires
zero_run-requires c = (omega arith, omega arith)

pub copy_run-requires : goal.copy_run-requires
copy_run-requires c = (omega arith, omega arith)

pub loop-k-init : goal.loop-k-init
loop-k-init c =
    let given = c.args in (
      eroding-start _ _ _ _
          (held_start given.head given.relief.now given.a.now _ c.requires.series.read c.requires.series.first
          c.copy_run.ensures) c.requires.series.second,
      score-none given.head given.relief.now given.score _ _ c.zero_run.ensures,
    )

pub step_pair-top-requires : goal.step_pair-top-requires
step_pair-top-requires c =
    eroding-asks _ _ _ _ _ _ _ c.loop-k.invariant.0 (omega arith) c.requires.series.wide

pub residue_pair-requires : goal.residue_pair-requires
residue_pair-requires c =
    let t = eroding-more _ _ _ _ _ _ _ c.loop-k.invariant.0 _ _ _ c.step_pair-top.ensures in
    pair-to-score _ _ _ _ _ _ t.pair (omega arith) (omega arith)
    (omega (arith, c.loop-k.invariant.1.same, c.zero_run.ensures.same, c.requires.room))

pub returns-then-top-eq0 : goal.returns-then-top-eq0
returns-then-top-eq0 c =
    let t = eroding-more _ _ _ _ _ _ _ c.loop-k.invariant.0 _ _ _ c.step_pair-top.ensures in
    record {
      map = score-done c.args.head c.args.relief.now c.args.score (c.loop-k.k + 1)
          largest_erosion _ _ _ (omega arith)
          (inr (eroding-empty _ _ _ _ _ _ _ c.loop-k.invariant.0 _ _ _ c.step_pair-top.ensures c.if-top-eq0.true))
          c.zero_run.ensures
          (score-more _ _ (λ n. search rules) _ _ _ _ _ _ _
          c.loop-k.invariant.1 t.pair c.residue_pair.ensures);
      first = kept_more _ _ _ _ (kept-copy _ _ _ _ c.copy_run.ensures) t.first;
      second = t.second;
    }

pub loop-k-preserved : goal.loop-k-preserved
loop-k-preserved c =
    let t = eroding-more _ _ _ _ _ _ _ c.loop-k.invariant.0 _ _ _ c.step_pair-top.ensures in (
      t,
      score-more _ _ (λ n. search rules) _ _ _ _ _ _ _
          c.loop-k.invariant.1 t.pair c.residue_pair.ensures,
    )

pub returns : goal.returns
returns c =
    let given = c.args in
    record {
      map = score-done given.head given.relief.now given.score c.loop-k.k largest_erosion _ _ _ (omega arith)
          (inl (omega arith)) c.zero_run.ensures c.loop-k.invariant.1;
      first = kept_more _ _ _ _ (kept-copy _ _ _ _ c.copy_run.ensures) c.loop-k.invariant.0.first;
      second = c.loop-k.invariant.0.second;
    }
