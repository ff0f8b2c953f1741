use mathlib.Core.Path.{◌≡◌, ap, ◌∙◌}
use Prim.Native.Nat.{ℕ, ◌+◌}
use native.Mathlib.Omega.{arith}
use Rattle.reading_fields.specs.Openings.{pair_at}
use Rattle.sink.specs.Sink.{table_entries}
use Rattle.table_field.proofs.Writes.{read_more, read_all}
use Rattle.table_field.proofs.read_entries.Goals as goal

pub returns : goal.returns
returns c =
    let given = c.args in
    let e : c.loop-i.i ≡ table_entries = omega (arith, c.loop-i.auto.i-end, c.loop-i-test.false) in
    read_all given.field.now given.entries.now c.loop-i.entries c.requires.1 (rw e at c.loop-i.invariant)

pub loop-i-preserved : goal.loop-i-preserved
loop-i-preserved c =
    let given = c.args in
    read_more given.field.now given.entries.now c.loop-i.i c.of_bytes.result c.loop-i.entries
    (omega (arith, c.loop-i-test.true, c.requires.1)) c.loop-i.invariant
    (c.of_bytes.ensures ∙ ap (λ (p : ℕ). pair_at given.field.now p (p + 1)) c.entry_place-at.ensures)
