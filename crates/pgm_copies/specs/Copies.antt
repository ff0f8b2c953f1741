-- To be believed: the scan that a picture becomes, and the picture that a scan becomes.
use Rattle.std.specs.Prelude.{◌≡◌, cond, List, ◌∷◌, ◌++◌, ℕ, ◌*◌, ltb, length, take, drop, Result, Ok, Err}
use Rattle.numerals.specs.Numerals.{numeral}
use Rattle.phrases.specs.Phrases.{ascii}
use Rattle.pgm.specs.declared.Picture.{Picture}
use Rattle.pgm_copies.specs.declared.CopyFault.{CopyFault}
use Rattle.pgm_copies.specs.declared.CopyFault.TheVariants.{NoRoom, TooFew, Unread}
use Rattle.pgm.specs.Pgm.{picture_answer}
use Rattle.pgm.specs.declared.PictureFault.{PictureFault}

-- bytes that are put at the start of a buffer if they have room there; gives their number
abbrev pub copy_answer : List ℕ → List ℕ → Result ℕ CopyFault
copy_answer bytes old = cond (ltb (length old) (length bytes)) (Err (NoRoom (length bytes))) (Ok (length bytes))

-- where they have no room, nothing is written
abbrev pub copied : List ℕ → List ℕ → List ℕ
copied bytes old = cond (ltb (length old) (length bytes)) old (bytes ++ drop (length bytes) old)

-- kind, width, height, then the samples
abbrev pub scan_of : List ℕ → ℕ → Picture → List ℕ
scan_of f kind p = kind ∷ p.width ∷ p.height ∷ take (p.height * p.width) (drop p.at f)

-- by what reading a picture's file f gives
abbrev pub scan_answer_of : List ℕ → ℕ → Result Picture PictureFault → List ℕ → Result ℕ CopyFault
scan_answer_of f kind (Ok p) old = copy_answer (scan_of f kind p) old
scan_answer_of f kind (Err x) old = Err (Unread x)

abbrev pub scan_written_of : List ℕ → ℕ → Result Picture PictureFault → List ℕ → List ℕ
scan_written_of f kind (Ok p) old = copied (scan_of f kind p) old
scan_written_of f kind (Err x) old = old

-- a picture's file as a scan
abbrev pub scan_answer : List ℕ → ℕ → List ℕ → Result ℕ CopyFault
scan_answer f kind old = scan_answer_of f kind (picture_answer f) old

abbrev pub scan_written : List ℕ → ℕ → List ℕ → List ℕ
scan_written f kind old = scan_written_of f kind (picture_answer f) old

-- "P5", the sides and the largest value
unfoldable pub header_text : ℕ → ℕ → List ℕ
header_text w h = ascii "P5\n" ++ numeral w ++ ascii " " ++ numeral h ++ ascii "\n255\n"

-- a scan's depths as a picture
abbrev pub picture_file : ℕ → ℕ → List ℕ → List ℕ
picture_file w h depths = header_text w h ++ take (h * w) depths

abbrev pub file_answer : ℕ → ℕ → List ℕ → List ℕ → Result ℕ CopyFault
file_answer w h depths old = cond (ltb (length depths) (h * w)) (Err TooFew) (copy_answer (picture_file w h depths) old)

abbrev pub file_written : ℕ → ℕ → List ℕ → List ℕ → List ℕ
file_written w h depths old = cond (ltb (length depths) (h * w)) old (copied (picture_file w h depths) old)

-- what a call that copies gives back, and what it leaves of its buffer
pub record Copies (answer : Result ℕ CopyFault) (bytes new : List ℕ) (r : Result ℕ CopyFault) : Type 0 where
  pub answers : r ≡ answer
  pub writes : new ≡ bytes
