-- To be believed: what the program `plunges` writes, for any standard input (document 01, at the end of "Blocks to try").
use Rattle.std.specs.Prelude.{false, List, [], ◌∷◌, ◌++◌, ℕ, ◌+◌, ◌*◌, ltb, length}
use Rattle.geometry.specs.declared.Head.{Head}
use Rattle.geometry.specs.declared.Plunge.{Plunge}
use Rattle.refusal.specs.Refusals.{trial, first_met, map_trials, head_of, largest_side}
use Rattle.fields.specs.Fields.{file_length}
use Rattle.jobs.specs.Calls.{listed}
use Rattle.scan.specs.Scan.{byte_in, depths}
use Rattle.text_lines.specs.Text.{answer_text, line_room}
use Rattle.refusal.specs.Refusals.{Verdict}

-- "Its file buffer is 65,536 bytes."
abbrev pub file_buffer : ℕ
file_buffer = 65536

-- the cells of the largest plate
abbrev pub most_cells : ℕ
most_cells = largest_side * largest_side

-- kind, width, height, and a depth for each cell of the largest plate
abbrev pub most_scan : ℕ
most_scan = 3 + most_cells

-- room for each line: 9,360 plunges have room in the file buffer, and two lines more
abbrev pub text_room : ℕ
text_room = line_room * 9362

-- "kind, width, height (a missing one counts as 0), then depths": the plate, and the plunges of the relief
abbrev pub plate_in : List ℕ → Head
plate_in s = head_of (byte_in s 0) (byte_in s 1) (byte_in s 2)

abbrev pub plunges_of : List ℕ → List Plunge
plunges_of s = listed (depths s) (byte_in s 0) (byte_in s 1) (byte_in s 2)

-- the length of the file that is listed into the buffer
abbrev pub list_length : List ℕ → ℕ
list_length s = file_length (plate_in s) (length (plunges_of s))

-- what is tried: 1 and 2, 4 of the depths, 5 of the file buffer with "the length needed"
abbrev pub scan_verdict : List ℕ → Verdict
scan_verdict s =
    first_met (map_trials (byte_in s 0) (byte_in s 1) (byte_in s 2) false (length (depths s) ∷ []) ++ (trial (ltb file_buffer (list_length s)) 5 (list_length s) ∷ []))

-- the whole text
abbrev pub plunges_text : List ℕ → List ℕ
plunges_text s = answer_text (scan_verdict s) (plate_in s) (plunges_of s)
