-- `append_of_scan` tries the sorts of file that are no scan, then tells the fault.
use borrow.Author.Tests.{eq-eqb, ne_eqb}
use mathlib.Core.Path.{sym, ◌∙◌}
use Rattle.reasons.specs.Reasons.{of_scan}
use Rattle.reasons.proofs.append_of_scan.Goals as goal

pub returns-then-scan-eq0 : goal.returns-then-scan-eq0
unfolding of_scan
returns-then-scan-eq0 c =
    rw (eq-eqb _ _ c.if-scan-eq0.true) c.append.ensures

pub returns-then-begins_as_job : goal.returns-then-begins_as_job
unfolding of_scan
returns-then-begins_as_job c =
    rw (ne_eqb _ _ c.if-scan-eq0.false, sym c.begins_as_job.ensures ∙ c.if-begins_as_job.true)
    c.append-then-begins_as_job.ensures

pub returns-then-begins_as_picture : goal.returns-then-begins_as_picture
unfolding of_scan
returns-then-begins_as_picture c =
    rw (
      ne_eqb _ _ c.if-scan-eq0.false,
      sym c.begins_as_job.ensures ∙ c.if-begins_as_job.false,
      sym c.begins_as_picture.ensures ∙ c.if-begins_as_picture.true,
    ) c.append-then-begins_as_picture.ensures

pub returns : goal.returns
unfolding of_scan
returns c =
    rw (
      ne_eqb _ _ c.if-scan-eq0.false,
      sym c.begins_as_job.ensures ∙ c.if-begins_as_job.false,
      sym c.begins_as_picture.ensures ∙ c.if-begins_as_picture.false,
    )
    c.append_scan_fault.ensures
