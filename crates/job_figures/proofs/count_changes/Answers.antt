use native.Mathlib.Omega.{arith}
use Rattle.job_figures.proofs.Walk.{changed-more}
use Rattle.job_figures.proofs.count_changes.Goals as goal

pub loop-i-preserved : goal.loop-i-preserved
loop-i-preserved c =
    changed-more c.args.file.now _ _ _ _ _ c.loop-i.invariant
    (omega (arith, c.loop-i-test.true, c.requires.plunges)) c.nth_plunge-next.ensures
    c.change-changes.ensures
