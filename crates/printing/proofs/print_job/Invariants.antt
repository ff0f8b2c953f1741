-- `print_job` goes from page to page; each holds a line at least.
use borrow.Author.Rules.{rules}
use mathlib.Core.Path.{◌≡◌}
use Prim.Native.Nat.{◌-◌, ◌≤◌}
use native.Mathlib.Omega.{arith}
use lib.ListN.{length}
use Rattle.text.specs.Pages.{line_at, line_count}
use Rattle.text_lines.specs.Text.{line_room}
use Rattle.reading.proofs.Answers.{total-few}
use Rattle.text.proofs.Pages.{page-goes-on}
use Rattle.printing.proofs.print_job.Given as goal

abbrev pub invariant-loop-next : goal.invariant-loop-next
invariant-loop-next l = (l.next ≤ line_count l.file) × (65536 ≡ length l.page)

abbrev pub decreases-loop-next : goal.decreases-loop-next
decreases-loop-next l = line_count l.file - l.next
