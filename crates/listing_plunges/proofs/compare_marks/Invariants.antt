use Rattle.listing_plunges.proofs.Marks.{NotedRun, Like}
use Rattle.listing_plunges.proofs.compare_marks.Given as goal

abbrev pub invariant-loop-j : goal.invariant-loop-j
invariant-loop-j l = NotedRun l.found l.marks l.noted l.count × Like l.size l.found l.marks l.noted l.count l.file l.at l.j l.place
