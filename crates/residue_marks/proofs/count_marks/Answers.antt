use mathlib.Core.Path.{◌≡◌, ap}
use native.Mathlib.Omega.{arith}
use Rattle.residue_marks.specs.Marks.{tally}
use Rattle.residue_marks.proofs.Marking.{tally-few}
use Rattle.residue_marks.proofs.count_marks.Goals as goal

pub loop-i-init : goal.loop-i-init
loop-i-init c = (omega arith, omega arith)

pub count_run-requires : goal.count_run-requires
count_run-requires c =
    record
    { ordered = omega (arith, c.min-end.ensures); within = omega (arith, c.min-end.ensures); few = omega (arith, c.min-end.ensures); size = c.requires.1 }

pub overflow_add-count : goal.overflow_add-count
overflow_add-count c =
    omega (
      arith,
      tally-few c.args.marks.now c.min-end.result,
      c.loop-i.invariant.1,
      c.count_run.ensures,
      c.min-end.ensures,
    )

pub loop-i-smaller : goal.loop-i-smaller
loop-i-smaller c = omega (arith, c.min-end.ensures)

pub loop-i-preserved : goal.loop-i-preserved
loop-i-preserved c =
    (omega (arith, c.min-end.ensures), omega (arith, c.loop-i.invariant.1, c.count_run.ensures))

pub returns : goal.returns
returns c =
    let e : c.loop-i.i ≡ c.args.number = omega arith in
    omega (arith, ap (tally c.args.marks.now) e, c.loop-i.invariant.1)
