-- `print_summary` lends buffers that hold the largest plate.
use Rattle.job_relief.proofs.Relief.{workable}
use native.Mathlib.Omega.{arith}
use borrow.Author.Rules.{rules}
use Rattle.test_summary.proofs.print_summary.Goals as goal

pub append_summary-end-requires : goal.append_summary-end-requires
append_summary-end-requires c = (
  workable c.args.file.now c.args.job _ _ _ c.requires
      (omega (arith, c.cells_room-a.ensures)) (omega (arith, c.cells_room-b.ensures))
      (omega (arith, c.cells_room-c.ensures)),
  c.part-at.ensures.0,
)
