-- To be believed: a text that goes out in pages: which of its parts each page holds.
use Rattle.std.specs.Prelude.{◌≡◌, cond, List, ℕ, ◌+◌, ◌-◌, ◌≤◌, ◌<◌, eqb, leb, length}
use Rattle.geometry.specs.Lists.{gather}
use Rattle.fields.specs.Writing.{spliced}
use Rattle.reading.specs.Reading.{head_in, total, nth_plunge}
use Rattle.text.specs.declared.Page.{Page}
use Rattle.text_lines.specs.Text.{plate_line, plunge_line, total_line}

-- the lines of a file's text, counted from 0: the plate's, one for each plunge, and the total's
unfoldable pub line_at : List ℕ → ℕ → List ℕ
line_at f i = cond (eqb i 0) (plate_line (head_in f)) (cond (leb i (total f)) (plunge_line (nth_plunge f (i - 1))) (total_line (total f)))

abbrev pub line_count : List ℕ → ℕ
line_count f = total f + 2

-- a page of a text in so many parts: it holds the parts from one on to before the next, in their order and nothing else, and all that are left if the next
-- would have had room
pub record PageOf (part : ℕ → List ℕ) (parts room from : ℕ) (old new : List ℕ) (r : Page) : Type 0 where
  pub onward : from ≤ r.next
  pub within : r.next ≤ parts
  pub bytes : new ≡ spliced old 0 (gather (r.next - from) from part)
  pub used : r.used ≡ length (gather (r.next - from) from part)
  pub full : r.next < parts → length old < r.used + room
