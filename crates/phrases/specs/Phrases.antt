-- To be believed: texts in ASCII, and a text put behind what a page holds.
use Rattle.std.specs.Prelude.{◌≡◌, Bool, false, cond, not, List, ◌++◌, [] as nil, ◌∷◌ as cons, ℕ, ◌+◌, ◌-◌, ◌/◌, ◌%◌, min, eqb, ltb, length, take}
use Prim.Native.Char.{code}
use Prim.Native.String.{String, [], ◌∷◌}
use Rattle.fields.specs.Writing.{spliced}
use Rattle.numerals.specs.Numerals.{numeral}

-- the bytes of a text
abbrev pub ascii : String → List ℕ
ascii [] = nil
ascii (c ∷ s) = cons (code c) (ascii s)

-- a text behind what stands before a place of a page: as much of it as there is room for, all other bytes as they were, and the place behind it
pub record Appends (old : List ℕ) (at : ℕ) (text new : List ℕ) (r : ℕ) : Type 0 where
  pub bytes : new ≡ spliced old at (take (length old - at) text)
  pub end : r ≡ min (at + length text) (length old)

-- a number between two texts
abbrev pub phrase : List ℕ → ℕ → List ℕ → List ℕ
phrase before n after = before ++ numeral n ++ after

-- a character that a terminal shows as itself: not a control character, and not the backslash
abbrev pub is_plain : ℕ → Bool
is_plain b = cond (ltb b 32) false (cond (eqb b 127) false (not (eqb b 92)))

-- a byte of a name as it is shown: another one is a backslash and three octal digits
abbrev pub shown_byte : ℕ → List ℕ
shown_byte b = cond (is_plain b) (cons b nil) (cons 92 (cons (48 + b / 64) (cons (48 + b / 8 % 8) (cons (48 + b % 8) nil))))

-- a name as it is shown
abbrev pub shown_name : List ℕ → List ℕ
shown_name nil = nil
shown_name (cons b bs) = shown_byte b ++ shown_name bs
