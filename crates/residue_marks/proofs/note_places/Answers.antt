use native.Mathlib.Omega.{arith}
use lib.ListN.{get_or}
use Rattle.residue_marks.proofs.Marking.{counted-small, noted-none, noted_more}
use Rattle.residue_marks.proofs.note_places.Goals as goal

pub loop-i-init : goal.loop-i-init
loop-i-init c = noted-none _ _ _ _ c.requires.few

pub overflow_cast-noted : goal.overflow_cast-noted
overflow_cast-noted c = omega (arith, c.requires.within)

pub bounds-noted-n : goal.bounds-noted-n
bounds-noted-n c = omega (arith, c.requires.within, c.requires.room)

pub bounds-marks-i : goal.bounds-marks-i
bounds-marks-i c = omega (arith, c.requires.within, c.requires.size)

pub overflow_add-n : goal.overflow_add-n
overflow_add-n c =
    omega (
      arith,
      c.requires.within,
      counted-small (get_or c.args.marks.now c.loop-i.i 0),
      c.count_of.ensures,
    )

pub loop-i-preserved : goal.loop-i-preserved
loop-i-preserved c =
    let given = c.args in
    noted_more given.marks.now given.from given.count given.noted.now c.loop-i.i
    c.loop-i.n c.count_of.result c.loop-i.noted c.loop-i.invariant (omega arith)
    (omega (arith, c.requires.within, c.requires.room)) c.count_of.ensures
