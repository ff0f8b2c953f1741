-- To be believed: what jobtool says behind the line of a refusal: what is wrong with a scan, a job file or a scale, and where.
use Rattle.std.specs.Prelude.{cond, List, [], ◌++◌, ℕ, ◌-◌, ◌*◌, eqb, length, get_or}
use Rattle.refusal.specs.declared.Refusal.{Refusal}
use Rattle.sink.specs.Sink.{whole}
use Rattle.motion_floats.specs.declared.Scale.{Scale}
use Rattle.motion_floats.specs.Floats.{within, sixteenth}
use Rattle.phrases.specs.Phrases.{ascii, phrase}
use Rattle.text_lines.specs.Text.{refusal_line}
use Rattle.reasons_parts.specs.Parts.{kind_reason, sides_reason, long_reason, begins_as_job, begins_as_picture, begins_as_scan}
use Rattle.reasons_fields.specs.Fields.{ends_reason, field_reason, plunge_reason, count_reason, surplus_reason, untidy_reason}

-- ---- a scan

abbrev pub depths_reason : List ℕ → List ℕ
depths_reason s =
    phrase (ascii "the scan has ") (length s - 3) (ascii " depths, ") ++ phrase [] (get_or s 2 0 * get_or s 1 0) (ascii " are needed")

-- a refusal of a scan: 1, 2, 4, or 5 of its list
abbrev pub scan_fault : List ℕ → ℕ → ℕ → List ℕ
scan_fault s number place =
    cond (eqb number 1) (kind_reason (get_or s 0 0))
    (cond (eqb number 2) (sides_reason (get_or s 1 0) (get_or s 2 0)) (cond (eqb number 4) (depths_reason s) (long_reason place)))

-- ---- a job file

-- a refusal of a job file: a fault in reading, 12, or 5 of its tidied list
abbrev pub job_fault : List ℕ → ℕ → ℕ → List ℕ
job_fault f number place =
    cond (eqb number 1) (kind_reason (get_or f 3 0))
    (cond (eqb number 2) (sides_reason (get_or f 4 0) (get_or f 5 0))
    (cond (eqb number 6) (ends_reason f place)
    (cond (eqb number 7) (field_reason f place)
    (cond (eqb number 8) (plunge_reason place (ascii ": its ball leaves the plate"))
    (cond (eqb number 9) (plunge_reason place (ascii ": its depth is 0"))
    (cond (eqb number 10) (count_reason f place)
    (cond (eqb number 11) (surplus_reason place) (cond (eqb number 12) (untidy_reason place) (long_reason place)))))))))

-- ---- another sort of file than the command takes

abbrev pub empty_reason : List ℕ
empty_reason = ascii "it is empty"

abbrev pub picture_reason : List ℕ
picture_reason = ascii "this looks like a picture: jobtool scan makes a scan of one"

abbrev pub job_reason : List ℕ
job_reason = ascii "this looks like a job file: jobtool draw makes a scan of one"

abbrev pub scan_reason : List ℕ
scan_reason = ascii "this looks like a scan: jobtool list makes a job file of one"

-- what a refused scan is told
unfoldable pub of_scan : List ℕ → Refusal → List ℕ
of_scan s r =
    cond (eqb (length s) 0) empty_reason
    (cond (begins_as_job s) job_reason (cond (begins_as_picture s) picture_reason (scan_fault s r.number r.place)))

-- what a refused job file is told
unfoldable pub of_job : List ℕ → Refusal → List ℕ
of_job f r =
    cond (eqb (length f) 0) empty_reason
    (cond (begins_as_scan f) scan_reason (cond (begins_as_picture f) picture_reason (job_fault f r.number r.place)))

-- which number of a scale is out of its range
unfoldable pub of_scale : Scale → List ℕ
of_scale s =
    cond (within sixteenth (whole 4) s.half_pitch)
    (cond (within (whole 0) (whole 1000) s.column_offset) (ascii "the row offset is not a number from 0 to 1000")
    (ascii "the column offset is not a number from 0 to 1000"))
    (ascii "the half pitch is not a number from 0.0625 to 4")

-- the line of a refusal, and behind it what the sentence is about
abbrev pub opening_text : Refusal → List ℕ → List ℕ
opening_text r about = refusal_line r ++ about ++ ascii ": "
