-- To be believed: press motions by a sink table as text, a line for each, in ASCII; millimetres in decimal.
use Rattle.std.specs.Prelude.{List, [], ◌∷◌, ◌++◌, ℕ, Float, Result, Ok, Err}
use Rattle.geometry.specs.Lists.{gather}
use Rattle.reading.specs.Reading.{total}
use Rattle.motion_floats.specs.declared.Scale.{Scale}
use Rattle.motion_floats.specs.declared.Motion.{Motion}
use Rattle.motion_floats.specs.declared.Motion.TheVariants.{Change, Stay, Travel, Sink}
use Rattle.motion_floats.specs.declared.Motions.{Motions}
use Rattle.motion.specs.Motions.{motions_in}
use Rattle.phrases.specs.Phrases.{ascii}
use Rattle.decimal_text.specs.Text.{number_text}
use Rattle.refusal.specs.declared.Refusal.{Refusal}

abbrev pub change_word : List ℕ
change_word = ascii "change"

abbrev pub stay_word : List ℕ
stay_word = ascii "stay"

abbrev pub travel_word : List ℕ
travel_word = ascii "travel"

abbrev pub sink_word : List ℕ
sink_word = ascii "sink"

-- a blank and millimetres
abbrev pub millimetres : Float → List ℕ
millimetres x = 32 ∷ number_text x

-- "Each motion carries its millimetres, a stay none"
abbrev pub motion_line : Motion → List ℕ
motion_line (Change width) = change_word ++ millimetres width ++ (10 ∷ [])
motion_line Stay = stay_word ++ (10 ∷ [])
motion_line (Travel column row) = travel_word ++ millimetres column ++ millimetres row ++ (10 ∷ [])
motion_line (Sink depth) = sink_word ++ millimetres depth ++ (10 ∷ [])

-- "three motions come back: a change or a stay, a travel, a sink"
abbrev pub motion_lines : Motions → List ℕ
motion_lines m = motion_line m.first ++ motion_line m.second ++ motion_line m.third

-- the lines of an answer; a refusal has none
abbrev pub answer_lines : Result Motions Refusal → List ℕ
answer_lines (Ok m) = motion_lines m
answer_lines (Err r) = []

-- the lines of plunge number i of a file
unfoldable pub lines_at : List ℕ → List ℕ → Scale → ℕ → List ℕ
lines_at table f s i = answer_lines (motions_in table f i s)

-- room for the lines of any plunge, in bytes
abbrev pub lines_room : ℕ
lines_room = 320

-- the whole text: the lines of every plunge, in their order
abbrev pub motions_text : List ℕ → List ℕ → Scale → List ℕ
motions_text table f s = gather (total f) 0 (lines_at table f s)
