-- To be believed: why a word is no file's name, as the system's numbers say it.
use Rattle.std.specs.Prelude.{ℤ, pos}
use Rattle.std.specs.declared.env.FillError.TheVariants.{NotPresent, TooLong}
use Rattle.std.specs.declared.env.FillError.{FillError}

-- ENAMETOOLONG of a word that is longer than the system takes, EINVAL of one that is not there
abbrev pub error_number : FillError → ℤ
error_number TooLong = pos 36
error_number NotPresent = pos 22
