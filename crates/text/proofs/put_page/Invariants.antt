-- `put_page` puts line after line, as long as there is room.
use Rattle.text.specs.Pages.{line_at, line_count}
use Rattle.text.proofs.Pages.{Filled}
use Rattle.text.proofs.put_page.Given as goal

abbrev pub invariant-loop-next : goal.invariant-loop-next
invariant-loop-next l = Filled (line_at l.file) (line_count l.file) l.from l.initial.page l.page l.used l.next
