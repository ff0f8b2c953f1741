use mathlib.Core.Path.{refl, ◌∙◌, ap}
use native.Mathlib.Omega.{arith}
use Rattle.geometry.specs.Plane.{cell}
use Rattle.window.specs.Windows.{window_max}
use Rattle.window.proofs.Windows.{window-max-near}
use Rattle.buffers.proofs.Fill.{filled_none}
use Rattle.buffers.proofs.Rooms.{row_room, cell_room}
use Rattle.residue_scores.proofs.Residues.{join-as, cells-more}
use Rattle.residue_scores.proofs.residue_cells.Goals as goal

pub overflow_mul-start : goal.overflow_mul-start
overflow_mul-start c =
    omega (
      arith,
      row_room c.args.head.width c.args.row c.args.head.height _ c.requires.0.here
          c.requires.1.before,
    )

pub loop-x-init : goal.loop-x-init
loop-x-init c = filled_none _ _ _

pub loop-x-preserved : goal.loop-x-preserved
loop-x-preserved c =
    let given = c.args in
    cells-more given.head given.score given.prev.now given.cur.now given.out.now given.row
    given.from c.loop-x.x c.join.result c.loop-x.out (omega arith)
    (cell_room given.head.width c.loop-x.x given.row given.head.height _ (omega arith) c.requires.0.here c.requires.1.room) c.loop-x.invariant
    (join-as given.score c.join.result _ _ c.saturating_sub.result _
    c.window_max-highest.result _ c.join.ensures refl c.saturating_sub.ensures
    (c.window_max-highest.ensures ∙ ap (window_max given.head.kind) c.window_at.ensures ∙
    window-max-near given.head given.cur.now (cell c.loop-x.x given.row)))
