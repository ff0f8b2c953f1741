-- To be believed: what a function that writes bytes at a place leaves of a buffer.
use Rattle.std.specs.Prelude.{List, ◌++◌, ℕ, ◌+◌, length, take, drop}

-- a buffer with the bytes bs at a place; all others are as they were
abbrev pub spliced : List ℕ → ℕ → List ℕ → List ℕ
spliced old at bs = take at old ++ bs ++ drop (at + length bs) old
