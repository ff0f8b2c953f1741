-- `file_room`: so many bytes, without counting them.
use Rattle.std.proofs.Common.{sym, ℕ}
use Rattle.std.proofs.lemmas.List.{length-replicate}
use Rattle.test_records.proofs.file_room.Goals as goal

pub returns : goal.returns
returns c = sym (length-replicate {A = ℕ} 600000 170)
