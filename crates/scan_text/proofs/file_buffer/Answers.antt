-- `file_buffer` has as many bytes as document 01 says; over the length, since a literal one would be counted out.
use mathlib.Core.Path.{◌≡◌, sym}
use Prim.Native.Nat.{ℕ}
use lib.ListN.{length, replicate, length-replicate}
use Rattle.scan_text.specs.Program.{file_buffer}
use Rattle.scan_text.proofs.file_buffer.Goals as goal

zeros-length : (n : ℕ) → n ≡ length {A = ℕ} (replicate n 0)
zeros-length n = sym (length-replicate n 0)

pub returns : goal.returns
returns c = zeros-length file_buffer
