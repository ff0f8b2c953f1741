-- `built_in` gives the code's array, which is the built-in table, number by number.
use Rattle.sink.proofs.Table.{table_is}
use Rattle.sink.proofs.built_in.Goals as goal

pub returns : goal.returns
returns c = table_is
