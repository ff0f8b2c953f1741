-- `residue_row` fills one row: whole by windows at the plate's edge, else its two ends and the run between them.
use native.Mathlib.Omega.{arith}
use Rattle.buffers.proofs.Rooms.{row_room, inner-interior}
use Rattle.residue_scores.proofs.Residues.{row-parts}
use Rattle.residue_scores.proofs.residue_row.Goals as goal

-- the row lies in the erosion before, and past the test it is an inner one

pub residue_run-requires : goal.residue_run-requires
residue_run-requires c =
    let given = c.args in
    let i = c.is_inner.ensures c.if-not-is_inner.false in (
      inner-interior given.head.width given.row given.head.height given.cur.now i.wide i.first i.last
          c.requires.1.after,
      omega (arith, row_room c.args.head.width c.args.row c.args.head.height _ c.requires.0 c.requires.1.before),
      omega (
        arith,
        row_room given.head.width given.row given.head.height _ c.requires.0 c.requires.1.room,
        c.residue_cells-2.ensures.same,
      ),
    )

pub returns : goal.returns
returns c =
    let given = c.args in
    row-parts given.head given.score given.prev.now given.cur.now given.out.now given.row
    c.residue_cells-2.new.out c.residue_run.new.out
    c.residue_cells-3.new.out (c.is_inner.ensures c.if-not-is_inner.false)
    c.residue_cells-2.ensures c.residue_run.ensures
    c.residue_cells-3.ensures
