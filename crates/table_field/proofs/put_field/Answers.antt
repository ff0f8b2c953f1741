-- `put_field` writes the opening, then the entries.
use Rattle.table_field.proofs.Writes.{field_put}
use Rattle.table_field.proofs.put_field.Goals as goal

pub returns : goal.returns
returns c =
    let given = c.args in
    field_put given.table.now given.out.now c.put_entries.new.out c.first_byte.result
    c.second_byte.result c.requires c.first_byte.ensures c.second_byte.ensures
    c.put_entries.ensures
