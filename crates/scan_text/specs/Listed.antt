-- Serves proofs: what is asked to put the text of a list.
use Rattle.std.specs.Prelude.{◌≡◌, List, ℕ, length, Ok}
use Rattle.fields.specs.Fields.{encoded}
use Rattle.scan_text.specs.Program.{plate_in, plunges_of, scan_verdict}

-- a file that was listed from a scan
pub record ListedFile (s file : List ℕ) (n : ℕ) : Type 0 where
  pub accepted : scan_verdict s ≡ Ok tt
  pub bytes : file ≡ encoded (plate_in s) (plunges_of s)
  pub count : n ≡ length (plunges_of s)
