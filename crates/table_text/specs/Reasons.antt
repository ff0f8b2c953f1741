-- To be believed: what is wrong with a refused sink table, in a sentence, for `jobtool`.
use Rattle.std.specs.Prelude.{cond, List, [], ◌++◌, ℕ, ◌+◌, ◌-◌, ◌/◌, eqb, length, get_or}
use Rattle.refusal.specs.declared.Refusal.{Refusal}
use Rattle.fields.specs.Fields.{opening}
use Rattle.reading_fields.specs.Openings.{pair_at}
use Rattle.table_field.specs.Tables.{table_tag, table_size, table_bytes}
use Rattle.sink.specs.Rule.{largest_entry}
use Rattle.numerals.specs.Numerals.{numeral}
use Rattle.phrases.specs.Phrases.{ascii, phrase}
use Rattle.reasons_parts.specs.Parts.{begins_as_job, begins_as_picture, begins_as_scan}

-- 6: how many bytes there are
abbrev pub cut_reason : List ℕ → List ℕ
cut_reason f = phrase (ascii "a sink table has ") table_bytes (ascii " bytes, this file has ") ++ numeral (length f)

-- 7: the tag and the length
abbrev pub other_reason : List ℕ → List ℕ
other_reason f =
    phrase (ascii "the field has tag ") (get_or f 0 0) (ascii " and length ") ++ phrase [] (pair_at f 1 2) (ascii ", a sink table has ")
    ++ phrase [] table_tag (ascii " and ") ++ numeral table_size

-- 11: where the surplus begins
abbrev pub behind_reason : ℕ → List ℕ
behind_reason place = phrase (ascii "the file goes on behind the sink table, from byte ") place (ascii " on")

-- 15: the entry that begins at a place, and the rule
abbrev pub rule_reason : List ℕ → ℕ → List ℕ
rule_reason f place =
    phrase (ascii "entry ") ((place - opening) / 2) (ascii " at byte ") ++ phrase [] place (ascii " is ") ++ phrase [] (pair_at f place (place + 1))
    (ascii ": entry 0 must be 0, each larger than the one before, none above ") ++ numeral largest_entry

abbrev pub table_fault : List ℕ → ℕ → ℕ → List ℕ
table_fault f number place =
    cond (eqb number 6) (cut_reason f) (cond (eqb number 7) (other_reason f) (cond (eqb number 11) (behind_reason place) (rule_reason f place)))

-- what a refused sink table is told; another sort of file is named
unfoldable pub of_table : List ℕ → Refusal → List ℕ
of_table f r =
    cond (eqb (length f) 0) (ascii "it is empty")
    (cond (begins_as_job f) (ascii "this looks like a job file, not a sink table")
    (cond (begins_as_picture f) (ascii "this looks like a picture, not a sink table")
    (cond (begins_as_scan f) (ascii "this looks like a scan, not a sink table") (table_fault f r.number r.place))))
