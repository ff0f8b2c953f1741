use mathlib.Core.Path.{◌≡◌}
use native.Mathlib.Omega.{arith}
use Rattle.sink.specs.Sink.{table_entries}
use Rattle.table_field.proofs.Writes.{put-more, put_all}
use Rattle.table_field.proofs.put_entries.Goals as goal

pub returns : goal.returns
returns c =
    let given = c.args in
    let e : c.loop-i.i ≡ table_entries = omega (arith, c.loop-i.auto.i-end, c.loop-i-test.false) in
    put_all given.table.now given.out.now c.loop-i.out (rw e at c.loop-i.invariant)

pub loop-i-preserved : goal.loop-i-preserved
loop-i-preserved c =
    let given = c.args in
    put-more given.table.now given.out.now c.requires c.loop-i.i c.entry_place-at.result
    c.first_byte.result c.second_byte.result c.loop-i.out c.loop-i-test.true c.loop-i.invariant
    c.entry_place-at.ensures c.first_byte.ensures c.second_byte.ensures
