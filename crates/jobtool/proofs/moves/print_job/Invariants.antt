-- `print_job` goes from page to page; each holds the lines of a plunge at least.
use Rattle.std.proofs.Common.{◌-◌, ◌≤◌, ◌≡◌, length}
use Rattle.reading.specs.Reading.{total}
use Rattle.jobtool.proofs.moves.print_job.Given as goal

abbrev pub invariant-loop-next : goal.invariant-loop-next
invariant-loop-next l = (l.next ≤ total l.file) × (65536 ≡ length l.page)

abbrev pub decreases-loop-next : goal.decreases-loop-next
decreases-loop-next l = total l.file - l.next
