-- `put_page` puts the lines of plunge after plunge, as long as there is room.
use Rattle.reading.specs.Reading.{total}
use Rattle.motion_text.specs.Lines.{lines_at}
use Rattle.text.proofs.Pages.{Filled}
use Rattle.motion_text.proofs.put_page.Given as goal

abbrev pub invariant-loop-next : goal.invariant-loop-next
invariant-loop-next l = Filled (lines_at l.table l.file l.scale) (total l.file) l.from l.initial.page l.page l.used l.next
