use Rattle.residue_sweep.proofs.Sweeping.{flat_near, sweep-as, edge-top, edge-bottom}
use native.Mathlib.Omega.{arith}
use Rattle.residue_sweep.proofs.sweep_places.Goals as goal

pub returns-then-end-width : goal.returns-then-end-width
returns-then-end-width c =
    edge-top _ _ c.requires.1 _ _ _ _ _ _ _ _ c.requires.0.wide c.if-cells-width.false c.if-end-width.true
    c.sweep_edge.ensures

pub returns-then-cells-start : goal.returns-then-cells-start
returns-then-cells-start c =
    edge-bottom _ _ c.requires.1 _ _ _ _ _ _ _ _ c.requires.0.wide c.if-cells-width.false c.if-cells-start.true
    c.requires.0.within c.sweep_edge-then-cells-start.ensures

pub returns : goal.returns
returns c =
    sweep-as _ _ _ _ _ _ _ _ _ _ _ _ c.sweep_run.ensures
    (λ n a b. flat_near c.args.head c.args.cur.now c.requires.1 n c.requires.0.wide (omega (arith, a, c.if-start-width.false)) (omega (arith, b, c.if-cells-end.false)))
