-- `read_entries` puts entry after entry into the array.
use Rattle.table_field.proofs.Writes.{ReadTo}
use Rattle.table_field.proofs.read_entries.Given as goal

abbrev pub invariant-loop-i : goal.invariant-loop-i
invariant-loop-i l = ReadTo l.field l.initial.entries l.i l.entries
