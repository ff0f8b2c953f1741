-- To be believed: what two job files have in common, as a line, for `jobtool same`.
use Rattle.std.specs.Prelude.{List, [], ◌++◌, ℕ, get_or}
use Rattle.phrases.specs.Phrases.{ascii, phrase}
use Rattle.comparison.specs.declared.Difference.{Difference}
use Rattle.comparison.specs.declared.Comparison.{Comparison}
use Rattle.comparison.specs.declared.Comparison.TheVariants.{Same, OtherKind, OtherSize, OtherCell, FirstRefused, SecondRefused}

-- a plate's width and height, from the head of a file
abbrev pub size_text : List ℕ → List ℕ → List ℕ
size_text f after = phrase [] (get_or f 4 0) (ascii " by ") ++ phrase [] (get_or f 5 0) after

abbrev pub kind_line : List ℕ → List ℕ → List ℕ
kind_line f g = phrase (ascii "kind ") (get_or f 3 0) (ascii " and ") ++ phrase [] (get_or g 3 0) (ascii "\n")

abbrev pub size_line : List ℕ → List ℕ → List ℕ
size_line f g = ascii "size " ++ size_text f (ascii " and ") ++ size_text g (ascii "\n")

-- the first cell whose depths differ
abbrev pub cell_line : Difference → List ℕ
cell_line d =
    phrase (ascii "column ") d.column (ascii ", row ") ++ phrase [] d.row (ascii ": depth ") ++ phrase [] d.first (ascii " and ")
    ++ phrase [] d.second (ascii "\n")

-- the first file's figure stands first; a refusal is told elsewhere
unfoldable pub comparison_line : List ℕ → List ℕ → Comparison → List ℕ
comparison_line f g Same = ascii "same\n"
comparison_line f g OtherKind = kind_line f g
comparison_line f g OtherSize = size_line f g
comparison_line f g (OtherCell d) = cell_line d
comparison_line f g (FirstRefused r) = []
comparison_line f g (SecondRefused r) = []
