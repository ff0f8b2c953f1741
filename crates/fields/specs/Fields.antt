-- To be believed: the bytes of a plunge file (document 01, "Plunge file, drawing, tidying"; of large plates document 02, N12): fields, and the
-- file that a head and a list of plunges make.
use Rattle.std.specs.Prelude.{List, [], ◌∷◌, ◌++◌, ℕ, ◌+◌, ◌*◌, ◌/◌, ◌%◌, length}
use Rattle.geometry.specs.declared.Head.{Head}
use Rattle.geometry.specs.declared.Plunge.{Plunge}
use Rattle.geometry.specs.declared.Size.{Size}
use Rattle.geometry.specs.declared.Size.TheVariants.{Small, Large}
use Rattle.geometry.specs.Forms.{kind_byte}
use Rattle.geometry.specs.Sizes.{size_of}

-- a number in two bytes, "high byte first", and in four
abbrev pub two : ℕ → List ℕ
two n = (n / 256) ∷ (n % 256) ∷ []

abbrev pub four : ℕ → List ℕ
four n = two (n / 65536 % 65536) ++ two (n % 65536)

-- ---- tags, lengths and places, by the size of the plate: the one home of these numbers

-- "a one-byte tag, a two-byte length": the bytes of a field before its content
abbrev pub opening : ℕ
opening = 3

-- a side, a column, a row or a reach: "a byte each"; on a large plate "two bytes each"
abbrev pub number : Size → ℕ → List ℕ
number Small n = n ∷ []
number Large n = two n

-- "1 head": its tag, the length of its content, the bytes of the whole field; "a head of tag 17 has length 5"
abbrev pub head_tag : Size → ℕ
head_tag Small = 1
head_tag Large = 17

abbrev pub head_size : Size → ℕ
head_size Small = 3
head_size Large = 5

abbrev pub head_bytes : Size → ℕ
head_bytes s = opening + head_size s

-- "2 plunge"; "plunges of tag 18 have length 7"
abbrev pub plunge_tag : Size → ℕ
plunge_tag Small = 2
plunge_tag Large = 18

abbrev pub plunge_size : Size → ℕ
plunge_size Small = 4
plunge_size Large = 7

abbrev pub plunge_bytes : Size → ℕ
plunge_bytes s = opening + plunge_size s

-- "3 end", of either size
abbrev pub end_tag : ℕ
end_tag = 3

abbrev pub end_size : ℕ
end_size = 4

abbrev pub end_bytes : ℕ
end_bytes = opening + end_size

-- where the field with n plunges before it begins, in a file with this head
abbrev pub place : Head → ℕ → ℕ
place p n = head_bytes (size_of p) + plunge_bytes (size_of p) * n

-- "Total plunges n make 13 + 7·n bytes."; of a large plate "15 + 10·n bytes"
abbrev pub file_length : Head → ℕ → ℕ
file_length p n = place p n + end_bytes

-- ---- the bytes of a field

-- "Fields are a one-byte tag, a two-byte length (high byte first), then content."
abbrev pub field : ℕ → List ℕ → List ℕ
field tag content = tag ∷ (two (length content) ++ content)

-- "kind, width, height"
abbrev pub head_content : Size → Head → List ℕ
head_content s p = kind_byte p.kind ∷ (number s p.width ++ number s p.height)

abbrev pub head_field_of : Size → Head → List ℕ
head_field_of s p = field (head_tag s) (head_content s p)

abbrev pub head_field : Head → List ℕ
head_field p = head_field_of (size_of p) p

-- "column, row, reach, depth"
abbrev pub plunge_content : Size → Plunge → List ℕ
plunge_content s q = number s q.column ++ (number s q.row ++ (number s q.reach.0 ++ q.depth ∷ []))

abbrev pub plunge_field : Size → Plunge → List ℕ
plunge_field s q = field (plunge_tag s) (plunge_content s q)

-- "number of plunges, high byte first"
abbrev pub end_field : ℕ → List ℕ
end_field n = field end_tag (four n)

-- "plunge, none or more"
abbrev pub plunge_fields : Size → List Plunge → List ℕ
plunge_fields s [] = []
plunge_fields s (q ∷ qs) = plunge_field s q ++ plunge_fields s qs

-- the whole file: "head, first, once", the plunges in their order, "end, last, once"
unfoldable pub encoded : Head → List Plunge → List ℕ
encoded p qs = head_field p ++ plunge_fields (size_of p) qs ++ end_field (length qs)
