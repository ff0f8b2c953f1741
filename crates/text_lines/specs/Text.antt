-- To be believed: document 01's text of a list and of a refusal, in ASCII.
use Rattle.std.specs.Prelude.{List, [], ◌∷◌, ◌++◌, ℕ, length, Ok, Err}
use Rattle.geometry.specs.declared.Head.{Head}
use Rattle.geometry.specs.declared.Plunge.{Plunge}
use Rattle.geometry.specs.Forms.{kind_byte}
use Rattle.refusal.specs.declared.Refusal.{Refusal}
use Rattle.numerals.specs.Numerals.{numeral}
use Rattle.phrases.specs.Phrases.{ascii}
use Rattle.refusal.specs.Refusals.{Verdict}

-- a number and the character after it: a blank is 32, a line's end 10
abbrev pub word : ℕ → ℕ → List ℕ
word n mark = numeral n ++ (mark ∷ [])

abbrev pub plate_word : List ℕ
plate_word = ascii "plate "

abbrev pub total_word : List ℕ
total_word = ascii "total "

abbrev pub refused_word : List ℕ
refused_word = ascii "refused "

-- "plate 8 3 3": "it prints kind, width and height"
abbrev pub plate_line : Head → List ℕ
plate_line p = plate_word ++ word (kind_byte p.kind) 32 ++ word p.width 32 ++ word p.height 10

-- "0 1 1 9": "then reach, row, column, depth for each"
abbrev pub plunge_line : Plunge → List ℕ
plunge_line q = word q.reach.0 32 ++ word q.row 32 ++ word q.column 32 ++ word q.depth 10

abbrev pub plunge_lines : List Plunge → List ℕ
plunge_lines [] = []
plunge_lines (q ∷ qs) = plunge_line q ++ plunge_lines qs

-- "total 2": "then the total"
abbrev pub total_line : ℕ → List ℕ
total_line n = total_word ++ word n 10

-- the whole text of a list
abbrev pub list_text : Head → List Plunge → List ℕ
list_text p qs = plate_line p ++ plunge_lines qs ++ total_line (length qs)

-- "refused 1 0": "A refusal prints one line only, the word, the number and the place"
abbrev pub refusal_line : Refusal → List ℕ
refusal_line r = refused_word ++ word r.number 32 ++ word r.place 10

-- "tidy": what jobtool prints of a file that the tidy check accepts
abbrev pub tidy_line : List ℕ
tidy_line = ascii "tidy\n"

-- the text of a verdict on a list: the list's, or the refusal's one line
abbrev pub answer_text : Verdict → Head → List Plunge → List ℕ
answer_text (Ok _) p qs = list_text p qs
answer_text (Err r) p qs = refusal_line r

-- room for any line, in bytes
abbrev pub line_room : ℕ
line_room = 32
