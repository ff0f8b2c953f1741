use native.Mathlib.Omega.{arith}
use lib.ListN.{get_or}
use Rattle.residue_marks.proofs.Marking.{counted-small, count-more}
use Rattle.residue_marks.proofs.count_run.Goals as goal

pub bounds-marks-i : goal.bounds-marks-i
bounds-marks-i c = omega (arith, c.requires.within, c.requires.size)

pub overflow_add-count : goal.overflow_add-count
overflow_add-count c =
    omega (
      arith,
      c.requires.few,
      counted-small (get_or c.args.marks.now c.loop-i.i 0),
      c.count_of-count.ensures,
    )

pub loop-i-preserved : goal.loop-i-preserved
loop-i-preserved c =
    let given = c.args in (
      omega (arith, counted-small (get_or given.marks.now c.loop-i.i 0), c.count_of-count.ensures),
      count-more given.marks.now given.from c.loop-i.i c.loop-i.count c.count_of-count.result c.loop-i.invariant.1 c.count_of-count.ensures,
    )
