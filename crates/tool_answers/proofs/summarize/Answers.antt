-- `summarize` sees that each work buffer holds the largest plate.
use borrow.Author.Rules.{rules}
use native.Mathlib.Omega.{arith}
use Rattle.job_relief.proofs.Relief.{workable}
use Rattle.tool_answers.proofs.summarize.Goals as goal

pub append_summary-n-requires : goal.append_summary-n-requires
append_summary-n-requires c = (
  workable c.args.file.now c.args.job _ _ _ c.requires c.if-a-lt-CELLS.false
      c.if-b-lt-CELLS.false c.if-c-lt-CELLS.false,
  omega arith,
)
