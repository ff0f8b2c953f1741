-- `append_of_job` tries the sorts of file that are no job file, then tells the fault.
use borrow.Author.Tests.{eq-eqb, ne_eqb}
use mathlib.Core.Path.{sym, ◌∙◌}
use Rattle.reasons.specs.Reasons.{of_job}
use Rattle.reasons.proofs.append_of_job.Goals as goal

pub returns-then-file-eq0 : goal.returns-then-file-eq0
unfolding of_job
returns-then-file-eq0 c =
    rw (eq-eqb _ _ c.if-file-eq0.true) c.append.ensures

pub returns-then-begins_as_scan : goal.returns-then-begins_as_scan
unfolding of_job
returns-then-begins_as_scan c =
    rw (ne_eqb _ _ c.if-file-eq0.false, sym c.begins_as_scan.ensures ∙ c.if-begins_as_scan.true)
    c.append-then-begins_as_scan.ensures

pub returns-then-begins_as_picture : goal.returns-then-begins_as_picture
unfolding of_job
returns-then-begins_as_picture c =
    rw (
      ne_eqb _ _ c.if-file-eq0.false,
      sym c.begins_as_scan.ensures ∙ c.if-begins_as_scan.false,
      sym c.begins_as_picture.ensures ∙ c.if-begins_as_picture.true,
    ) c.append-then-begins_as_picture.ensures

pub returns : goal.returns
unfolding of_job
returns c =
    rw (
      ne_eqb _ _ c.if-file-eq0.false,
      sym c.begins_as_scan.ensures ∙ c.if-begins_as_scan.false,
      sym c.begins_as_picture.ensures ∙ c.if-begins_as_picture.false,
    )
    c.append_job_fault.ensures
