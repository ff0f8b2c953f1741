-- `append_table` puts the line of each depth, rising.
use Rattle.table_text.proofs.Lines.{Lined}
use Rattle.table_text.proofs.append_table.Given as goal

abbrev pub invariant-loop-depth : goal.invariant-loop-depth
invariant-loop-depth l = Lined l.initial.page l.at l.table l.page l.end l.depth
