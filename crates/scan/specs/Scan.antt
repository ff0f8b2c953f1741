-- To be believed: document 01's input of the program `plunges`, "kind, width, height (a missing one counts as 0), then depths".
use Rattle.std.specs.Prelude.{List, ℕ, drop, get_or}

-- the byte at a place, 0 past the end
abbrev pub byte_in : List ℕ → ℕ → ℕ
byte_in s i = get_or s i 0

-- what follows kind, width and height
abbrev pub depths : List ℕ → List ℕ
depths s = drop 3 s
