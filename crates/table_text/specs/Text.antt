-- To be believed: a sink table as text, a line for each depth, for `jobtool`; not in document 02.
use Rattle.std.specs.Prelude.{List, [], ◌++◌, ℕ, get_or}
use Rattle.geometry.specs.Lists.{gather}
use Rattle.sink.specs.Sink.{table_entries, plunge_sink}
use Rattle.phrases.specs.Phrases.{ascii, phrase}

-- the entry of a depth, and what a plunge of reach 0 sinks there
abbrev pub table_line : ℕ → ℕ → List ℕ
table_line depth entry =
    phrase (ascii "depth ") depth (ascii ": ") ++ phrase [] entry (ascii " micrometres, ") ++ phrase [] (plunge_sink 0 entry) (ascii " at reach 0\n")

-- the line of a depth by its table; all lines
abbrev pub line_of : List ℕ → ℕ → List ℕ
line_of table depth = table_line depth (get_or table depth 0)

unfoldable pub table_text : List ℕ → List ℕ
table_text table = gather table_entries 0 (line_of table)
