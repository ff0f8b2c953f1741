-- `first_room`: so many bytes, without counting them.
use Rattle.std.proofs.Common.{sym, ℕ}
use Rattle.std.proofs.lemmas.List.{length-replicate}
use Rattle.test_wide.proofs.first_room.Goals as goal

pub returns : goal.returns
returns c = sym (length-replicate {A = ℕ} 540800 0)
