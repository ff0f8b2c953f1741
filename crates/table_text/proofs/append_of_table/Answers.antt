-- `append_of_table` tries the sorts of file that are no sink table, then tells the fault.
use Rattle.table_text.specs.Reasons.{of_table}
use mathlib.Core.Path.{sym, ◌∙◌}
use borrow.Author.Tests.{eq-eqb, ne_eqb}
use Rattle.table_text.proofs.append_of_table.Goals as goal

pub returns-then-file-eq0 : goal.returns-then-file-eq0
unfolding of_table
returns-then-file-eq0 c =
    rw (eq-eqb _ _ c.if-file-eq0.true) c.append.ensures

pub returns-then-begins_as_job : goal.returns-then-begins_as_job
unfolding of_table
returns-then-begins_as_job c =
    rw (ne_eqb _ _ c.if-file-eq0.false, sym c.begins_as_job.ensures ∙ c.if-begins_as_job.true)
    c.append-then-begins_as_job.ensures

pub returns-then-begins_as_picture : goal.returns-then-begins_as_picture
unfolding of_table
returns-then-begins_as_picture c =
    rw (
      ne_eqb _ _ c.if-file-eq0.false,
      sym c.begins_as_job.ensures ∙ c.if-begins_as_job.false,
      sym c.begins_as_picture.ensures ∙ c.if-begins_as_picture.true,
    ) c.append-then-begins_as_picture.ensures

pub returns-then-begins_as_scan : goal.returns-then-begins_as_scan
unfolding of_table
returns-then-begins_as_scan c =
    rw (
      ne_eqb _ _ c.if-file-eq0.false,
      sym c.begins_as_job.ensures ∙ c.if-begins_as_job.false,
      sym c.begins_as_picture.ensures ∙ c.if-begins_as_picture.false,
      sym c.begins_as_scan.ensures ∙ c.if-begins_as_scan.true,
    ) c.append-then-begins_as_scan.ensures

pub returns : goal.returns
unfolding of_table
returns c =
    rw (
      ne_eqb _ _ c.if-file-eq0.false,
      sym c.begins_as_job.ensures ∙ c.if-begins_as_job.false,
      sym c.begins_as_picture.ensures ∙ c.if-begins_as_picture.false,
      sym c.begins_as_scan.ensures ∙ c.if-begins_as_scan.false,
    ) c.append_fault.ensures
