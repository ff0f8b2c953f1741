-- `next_run` sweeps up to the run's end and goes on from there: `taken` joins what its parts leave.
use native.Mathlib.Omega.{arith}
use Rattle.residue_series.proofs.Midways.{pair-to-sweep}
use Rattle.residue_series.proofs.Stands.{taken}
use Rattle.residue_series.proofs.next_run.Goals as goal

pub sweep_pair-swept-requires : goal.sweep_pair-swept-requires
sweep_pair-swept-requires c =
    let stands = c.requires.stands in
    let run = c.run_end-end.ensures in
    let within = run.within in
    let some = run.some in
    let short = run.short in
    pair-to-sweep _ _ _ _ _ _ _ _ stands.pair _ _ stands.level.some stands.level.sides.wide
    (omega (arith, within, some)) (omega (arith, short, some)) c.requires.size

pub returns : goal.returns
returns c =
    taken _ _ _ _ _ _ _ _ _ _ _ _ c.requires.stands.level c.run_end-end.ensures
    c.sweep_pair-swept.ensures c.max.ensures c.advance-next.ensures c.requires.relief
    c.requires.stands c.requires.size
