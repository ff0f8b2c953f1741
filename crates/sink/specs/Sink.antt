-- To be believed: the built-in table, and the sink of a plunge by a table (document 01, "Press motions"; document 02, N4 and N6).
use Rattle.std.specs.Prelude.{cond, List, [], ◌∷◌, ℕ, ◌+◌, ◌*◌, ◌/◌, eqb, pos, get_or, Float}
use Rattle.std.specs.Float.{binary64}
use Rattle.std.specs.Float.Ieee.{of_int, div}
use Rattle.geometry.specs.Lists.{gather}

-- "a table of 256 whole micrometres": an entry for each depth
abbrev pub table_entries : ℕ
table_entries = 256

-- "entry d being 20·d plus d·d/64 rounded down"
abbrev pub micrometres : ℕ → ℕ
micrometres d = 20 * d + d * d / 64

-- N6: "the built-in table is what a press starts with"
unfoldable pub built_in : List ℕ
built_in = gather table_entries 0 (λ d. micrometres d ∷ [])

-- N4: "A plunge of reach 0 sinks its table entry plus that entry divided by 10 and rounded down. Other reaches keep the table entry."
abbrev pub plunge_sink : ℕ → ℕ → ℕ
plunge_sink reach entry = cond (eqb reach 0) (entry + entry / 10) entry

-- N6: "Motions then use the loaded table, the reach 0 allowance included": in whole micrometres, by a table, a plunge's reach and its depth
abbrev pub sink_micrometres : List ℕ → ℕ → ℕ → ℕ
sink_micrometres table reach depth = plunge_sink reach (get_or table depth 0)

-- a whole number as a float
abbrev pub whole : ℕ → Float
whole n = of_int binary64 (pos n)

-- "as a float divided by 1000": by the entry of a plunge's depth; by a table
abbrev pub plunge_millimetres : ℕ → ℕ → Float
plunge_millimetres reach entry = div binary64 (whole (plunge_sink reach entry)) (whole 1000)

abbrev pub sink_millimetres : List ℕ → ℕ → ℕ → Float
sink_millimetres table reach depth = plunge_millimetres reach (get_or table depth 0)
