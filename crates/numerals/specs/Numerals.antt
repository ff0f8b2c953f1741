-- To be believed: whole numbers as text, in ASCII, and a text put at a place.
use Rattle.std.specs.Prelude.{◌≡◌, cond, List, [], ◌∷◌, ◌++◌, ℕ, zero, suc, ◌+◌, ◌/◌, ◌%◌, ltb, length}
use Rattle.fields.specs.Writing.{spliced}

-- '0' to '9', then 'a' to 'f'
abbrev pub digit_byte : ℕ → ℕ
digit_byte d = cond (ltb d 10) (48 + d) (87 + d)

-- the last k digits of n
abbrev pub digit_text : ℕ → ℕ → ℕ → List ℕ
digit_text base zero n = []
digit_text base (suc k) n = digit_text base k (n / base) ++ digit_byte (n % base) ∷ []

-- a number in decimal, with no zeros in front: its last digit, behind the numeral of its tenth part if that is not 0; at most k digits
unfoldable pub numeral_within : ℕ → ℕ → List ℕ
numeral_within zero n = []
numeral_within (suc k) n = cond (ltb n 10) [] (numeral_within k (n / 10)) ++ (48 + n % 10) ∷ []

-- the numeral of a number of 64 bits, which has 20 digits at most
unfoldable pub numeral : ℕ → List ℕ
numeral n = numeral_within 20 n

-- a text put at a place of a buffer: the bytes after, and the place behind the text
abbrev pub Puts : List ℕ → ℕ → List ℕ → List ℕ → ℕ → Type 0
Puts old at text new r = (new ≡ spliced old at text) × (r ≡ at + length text)
