-- To be believed: what the sentences about scans and about job files share: the faults of a plate and of an answer, and how files begin.
use Rattle.std.specs.Prelude.{Bool, true, false, cond, List, [], ◌++◌, ℕ, eqb, get_or}
use Rattle.refusal.specs.Refusals.{largest_side}
use Rattle.numerals.specs.Numerals.{numeral}
use Rattle.phrases.specs.Phrases.{ascii, phrase}

-- ---- faults of a plate and of an answer

abbrev pub kind_reason : ℕ → List ℕ
kind_reason kind = phrase (ascii "kind ") kind (ascii " is not 4 or 8")

abbrev pub sides_reason : ℕ → ℕ → List ℕ
sides_reason width height =
    phrase (ascii "width ") width (ascii " and height ") ++ phrase [] height (ascii ": sides are 1 to ") ++ numeral largest_side

abbrev pub long_reason : ℕ → List ℕ
long_reason bytes = phrase (ascii "the answer has ") bytes (ascii " bytes, more than jobtool holds")

-- ---- sorts of files

-- how the three sorts begin: a job file with 01 00 03, a picture with 'P5', a scan with its kind
abbrev pub begins_as_job : List ℕ → Bool
begins_as_job s = cond (eqb (get_or s 0 0) 1) (cond (eqb (get_or s 1 0) 0) (eqb (get_or s 2 0) 3) false) false

abbrev pub begins_as_picture : List ℕ → Bool
begins_as_picture s = cond (eqb (get_or s 0 0) 80) (eqb (get_or s 1 0) 53) false

abbrev pub begins_as_scan : List ℕ → Bool
begins_as_scan s = cond (eqb (get_or s 0 0) 4) true (eqb (get_or s 0 0) 8)
