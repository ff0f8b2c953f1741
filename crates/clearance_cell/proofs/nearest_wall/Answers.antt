use Prim.Native.Nat.{◌+◌}
use native.Mathlib.Omega.{arith}
use Rattle.clearance_cell.proofs.Search.{searched-none, searched-more, searched-end, far-row, row-places}
use Rattle.clearance_cell.proofs.nearest_wall.Goals as goal
use Rattle.clearance_cell.proofs.nearest_wall.Goals.{then-away-best, else-away-best}

pub loop-away-init : goal.loop-away-init
loop-away-init c = rw c.edge_distance-best.ensures (searched-none _ _ _ _ _ (omega arith) (omega arith) (omega arith))

pub nearest_in_row-best-requires-then-away-best : goal.nearest_in_row-best-requires-then-away-best
nearest_in_row-best-requires-then-away-best c =
    let s = row-places c.loop-away.invariant.room (c.args.row + c.loop-away.away) (omega arith) in (
      omega arith,
      omega (arith, s.0, c.nearest_in_row-best.ensures.most),
      omega (arith, s.1, c.nearest_in_row-best.ensures.most),
    )

pub returns : goal.returns
returns c = searched-end _ _ _ _ _ _ _ c.loop-away.invariant c.loop-away-test.false (omega arith)

pub loop-away-preserved : goal.loop-away-preserved
loop-away-preserved c =
    elim c.if-away-best.branch [
      | then-away-best w ↦ rw w.best-is (searched-more _ _ _ _ _ _ _ _ _ c.loop-away.invariant c.loop-away-test.true c.nearest_in_row-best.ensures
          w.nearest_in_row-best-then-away-best.ensures)
      | else-away-best w ↦ rw w.best-is (searched-more _ _ _ _ _ _ _ _ _ c.loop-away.invariant c.loop-away-test.true c.nearest_in_row-best.ensures
          (far-row _ _ _ _ _ _ w.if-away-best.false))
    ]
