-- To be believed: the text of a job's figures, one fact a line.
use Rattle.std.specs.Prelude.{Bool, cond, List, [], ◌++◌, ℕ, suc, eqb}
use Rattle.geometry.specs.declared.Head.{Head}
use Rattle.geometry.specs.declared.Plunge.{Plunge}
use Rattle.geometry.specs.Lists.{gather}
use Rattle.geometry.specs.Forms.{kind_byte, largest_reach}
use Rattle.reading.specs.Reading.{head_in, plunges_in, total}
use Rattle.motion.specs.Changes.{changes_in}
use Rattle.phrases.specs.Phrases.{ascii, phrase}
use Rattle.job_figures.specs.Figures.{count_of, least_depth, greatest_depth, travel_in}
use Rattle.job_relief.specs.Relief.{volume_in, is_tidy}

-- ---- the list

-- "plate 24 by 24, kind 8"
unfoldable pub plate_line : Head → List ℕ
plate_line p =
    phrase (ascii "plate ") p.width (ascii " by ") ++ phrase [] p.height (ascii ", kind ") ++ phrase [] (kind_byte p.kind) (ascii "\n")

-- "plunges 240"
abbrev pub plunges_line : ℕ → List ℕ
plunges_line n = phrase (ascii "plunges ") n (ascii "\n")

-- "reach 0: plunges 120, depths 1 to 9"; no line for a reach that no plunge has
unfoldable pub reach_line : ℕ → ℕ → ℕ → ℕ → List ℕ
reach_line r count least greatest =
    phrase (ascii "reach ") r (ascii ": plunges ") ++ phrase [] count (ascii ", depths ") ++ phrase [] least (ascii " to ") ++ phrase [] greatest (ascii "\n")

abbrev pub line_of_reach : ℕ → ℕ → ℕ → ℕ → List ℕ
line_of_reach r count least greatest = cond (eqb count 0) [] (reach_line r count least greatest)

abbrev pub reach_at : List Plunge → ℕ → List ℕ
reach_at qs r = line_of_reach r (count_of r qs) (least_depth r qs) (greatest_depth r qs)

-- of all reaches, rising
unfoldable pub reach_lines : List Plunge → List ℕ
reach_lines qs = gather (suc largest_reach) 0 (reach_at qs)

-- "changes 12"
abbrev pub changes_line : ℕ → List ℕ
changes_line n = phrase (ascii "changes ") n (ascii "\n")

-- "travel 3456 cells"
abbrev pub travel_line : ℕ → List ℕ
travel_line n = phrase (ascii "travel ") n (ascii " cells\n")

abbrev pub list_text : List ℕ → List ℕ
list_text f =
    plate_line (head_in f) ++ plunges_line (total f) ++ reach_lines (plunges_in f) ++ changes_line (changes_in (plunges_in f)) ++ travel_line (travel_in (plunges_in f))

-- ---- the relief that the list draws

-- "volume 2345"
abbrev pub volume_line : ℕ → List ℕ
volume_line n = phrase (ascii "volume ") n (ascii "\n")

-- "tidy yes" or "tidy no"
abbrev pub tidy_line : Bool → List ℕ
tidy_line t = cond t (ascii "tidy yes\n") (ascii "tidy no\n")

abbrev pub relief_text : List ℕ → List ℕ
relief_text f = volume_line (volume_in f) ++ tidy_line (is_tidy f)

-- ---- a listing

-- "rungs 12": "how many rungs were climbed" (document 02, N5), told of a list that is made; no part of a file's figures
abbrev pub rungs_line : ℕ → List ℕ
rungs_line n = phrase (ascii "rungs ") n (ascii "\n")

-- ---- the whole text of a file

unfoldable pub summary_text : List ℕ → List ℕ
summary_text f = list_text f ++ relief_text f

-- bytes in which every such text has room
abbrev pub summary_room : ℕ
summary_room = 16384
