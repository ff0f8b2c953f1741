use Rattle.listing_plunges.proofs.Marks.{NotedRun, Put}
use Rattle.listing_plunges.proofs.put_marks.Given as goal

abbrev pub invariant-loop-j : goal.invariant-loop-j
invariant-loop-j l = NotedRun l.found l.marks l.noted l.count × Put l.size l.found l.marks l.noted l.count l.at l.initial.out l.j l.out l.place
