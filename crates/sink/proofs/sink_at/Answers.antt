-- `sink_at` reads the code's array, which is the built-in table.
use mathlib.Core.Path.{ap}
use mathlib.Core.List.{List}
use Prim.Native.Nat.{ℕ}
use lib.ListN.{get_or}
use Rattle.sink.proofs.Table.{table_is}
use Rattle.sink.proofs.sink_at.Goals as goal

pub returns : goal.returns
returns c = ap (λ (t : List ℕ). get_or t c.args.depth 0) table_is
