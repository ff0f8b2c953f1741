-- To be believed: what is wrong with a field of a job file, or with its end, and where.
use Rattle.std.specs.Prelude.{cond, List, [], ◌++◌, ℕ, ◌-◌, ◌/◌, eqb, length, get_or}
use Rattle.geometry.specs.declared.Size.TheVariants.{Small}
use Rattle.fields.specs.Fields.{head_bytes, plunge_bytes}
use Rattle.reading_fields.specs.Openings.{length_at, number_at}
use Rattle.phrases.specs.Phrases.{ascii, phrase}

-- the number of the plunge whose field holds a byte, in a file of a small plate
abbrev pub plunge_number : ℕ → ℕ
plunge_number place = (place - head_bytes Small) / plunge_bytes Small

abbrev pub ends_reason : List ℕ → ℕ → List ℕ
ends_reason f place =
    cond (eqb place (length f)) (phrase (ascii "the file ends at byte ") place (ascii " without an end field"))
    (phrase (ascii "the file ends inside the field at byte ") place [])

abbrev pub field_reason : List ℕ → ℕ → List ℕ
field_reason f place =
    phrase (ascii "the field at byte ") place (ascii " has tag ") ++ phrase [] (get_or f place 0) (ascii " and length ")
    ++ phrase [] (length_at f place) (ascii ", which is not allowed there")

abbrev pub plunge_reason : ℕ → List ℕ → List ℕ
plunge_reason place fault = phrase (ascii "plunge number ") (plunge_number place) (ascii " at byte ") ++ phrase [] place fault

abbrev pub count_reason : List ℕ → ℕ → List ℕ
count_reason f place =
    phrase (ascii "the end field at byte ") place (ascii " says ") ++ phrase [] (number_at f place) (ascii " plunges, the file has ")
    ++ phrase [] (plunge_number place) []

abbrev pub surplus_reason : ℕ → List ℕ
surplus_reason place = phrase (ascii "the file goes on behind its end field, from byte ") place (ascii " on")

abbrev pub untidy_reason : ℕ → List ℕ
untidy_reason place = phrase (ascii "not tidy: the tidied file is unlike this one from byte ") place (ascii " on")
