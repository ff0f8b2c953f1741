-- Serves proofs: a number of 32 bits as the calls inside take it: one that fits is kept, another becomes one that is refused too.
use Rattle.std.specs.Prelude.{cond, ℕ, leb}
use Rattle.c_arguments.specs.declared.Plate.{Plate}

-- a number up to most, or else a number to be refused
abbrev pub narrow : ℕ → ℕ → ℕ → ℕ
narrow most other n = cond (leb n most) n other

-- neither a kind nor a level
abbrev pub no_byte : ℕ
no_byte = 0

abbrev pub narrow_byte : ℕ → ℕ
narrow_byte = narrow 255 no_byte

-- no side, no number of an erosion or a residue, and beyond the columns and rows of every plate
abbrev pub no_word : ℕ
no_word = 65535

abbrev pub narrow_word : ℕ → ℕ
narrow_word = narrow 65535 no_word

abbrev pub narrow_plate : ℕ → ℕ → ℕ → Plate
narrow_plate k w h = record { kind = narrow_byte k; width = narrow_word w; height = narrow_word h }
