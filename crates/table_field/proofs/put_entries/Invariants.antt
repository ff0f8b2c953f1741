-- `put_entries` writes the two bytes of entry after entry.
use Rattle.table_field.proofs.Writes.{PutTo}
use Rattle.table_field.proofs.put_entries.Given as goal

abbrev pub invariant-loop-i : goal.invariant-loop-i
invariant-loop-i l = PutTo l.table l.initial.out l.i l.out
