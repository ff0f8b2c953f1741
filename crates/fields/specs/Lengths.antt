-- Serves proofs: numbers that a length can be.
use Rattle.std.specs.Prelude.{ℕ, ◌<◌}

-- a place that a length can be: below 2 to the power of 64
abbrev pub IsLength : ℕ → Type 0
IsLength n = n < 18446744073709551616
