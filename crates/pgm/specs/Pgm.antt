-- To be believed: a PGM picture, a byte for each sample: what its header says, where its samples stand, and its first fault.
use Rattle.std.specs.Prelude.{Bool, true, false, cond, not, List, [], ◌∷◌, ◌++◌, ℕ, suc, ◌+◌, ◌-◌, ◌*◌, min, eqb, ltb, leb, length, take, drop, get_or, Result, Ok, Err, ⊤}
use Rattle.refusal.specs.Refusals.{largest_side}
use Rattle.decimal.specs.Decimal.{is_digit}
use Rattle.pgm.specs.declared.Number.{Number}
use Rattle.pgm.specs.declared.Header.{Header}
use Rattle.pgm.specs.declared.Picture.{Picture}
use Rattle.pgm.specs.declared.Quantity.{Quantity}
use Rattle.pgm.specs.declared.Quantity.TheVariants.{Width, Height, Maxval}
use Rattle.pgm.specs.declared.PictureFault.{PictureFault}
use Rattle.pgm.specs.declared.PictureFault.TheVariants.{NotPgm, NoSpace, NoNumber, OutOfRange, Short, BadSample}

-- ---- whitespace and comments

-- blank, TAB, LF, VT, FF, CR
abbrev pub is_white : ℕ → Bool
is_white b = cond (eqb b 32) true (cond (leb 9 b) (leb b 13) false)

-- a comment ends with LF or CR
abbrev pub ends_comment : ℕ → Bool
ends_comment b = cond (eqb b 10) true (eqb b 13)

-- a byte belongs to a comment, is whitespace, or is the '#' that begins a comment
abbrev pub in_gap : Bool → ℕ → Bool
in_gap comment b = cond comment true (cond (is_white b) true (eqb b 35))

-- whether a comment goes on behind a byte
abbrev pub in_comment : Bool → ℕ → Bool
in_comment comment b = cond comment (not (ends_comment b)) (eqb b 35)

-- how many bytes of whitespace and comments a text begins with, in a comment or outside
unfoldable pub gap : Bool → List ℕ → ℕ
gap comment [] = 0
gap comment (b ∷ bs) = cond (in_gap comment b) (suc (gap (in_comment comment b) bs)) 0

-- ---- numbers

-- how many digits a text begins with
unfoldable pub digits : List ℕ → ℕ
digits [] = 0
digits (b ∷ bs) = cond (is_digit b) (suc (digits bs)) 0

-- any larger number counts as this
abbrev pub largest_number : ℕ
largest_number = 65536

-- the number whose digits a text begins with, where they follow the digits of n
unfoldable pub number_from : ℕ → List ℕ → ℕ
number_from n [] = n
number_from n (b ∷ bs) = cond (is_digit b) (number_from (min (10 * n + (b - 48)) largest_number) bs) n

-- the number at a place, and the place behind its digits
abbrev pub number_at : List ℕ → ℕ → Number
number_at f at = record { at = at; value = number_from 0 (drop at f); end = at + digits (drop at f) }

-- the place behind whitespace and comments
abbrev pub gap_end : List ℕ → ℕ → ℕ
gap_end f from = from + gap false (drop from f)

-- the number behind whitespace and comments
unfoldable pub number_after : List ℕ → ℕ → Number
number_after f from = number_at f (gap_end f from)

-- ---- the header

-- "P5"
abbrev pub opens : List ℕ → Bool
opens f = cond (eqb (get_or f 0 0) 80) (eqb (get_or f 1 0) 53) false

abbrev pub width_in : List ℕ → Number
width_in f = number_after f 2

abbrev pub height_in : List ℕ → Number
height_in f = number_after f (width_in f).end

-- the largest value that a sample may have
abbrev pub maxval_in : List ℕ → Number
maxval_in f = number_after f (height_in f).end

abbrev pub header_in : List ℕ → Header
header_in f = record { width = width_in f; height = height_in f; maxval = maxval_in f }

-- the samples begin behind one byte of whitespace
abbrev pub first_sample : Header → ℕ
first_sample h = h.maxval.end + 1

abbrev pub area : Header → ℕ
area h = h.height.value * h.width.value

-- how many samples come before the first above the largest value
unfoldable pub count_within : ℕ → List ℕ → ℕ
count_within most [] = 0
count_within most (b ∷ bs) = cond (leb b most) (suc (count_within most bs)) 0

-- ---- faults

-- one thing that is tried: whether it is wrong, and the fault that it is
pub record Trial : Type 0 where
  pub met : Bool
  pub fault : PictureFault

abbrev pub trial : Bool → PictureFault → Trial
trial b x = record { met = b; fault = x }

abbrev pub first_fault : List Trial → Result ⊤ PictureFault
first_fault [] = Ok tt
first_fault (t ∷ more) = cond t.met (Err t.fault) (first_fault more)

-- from 1 to the most
abbrev pub in_range : ℕ → ℕ → Bool
in_range most n = cond (leb 1 n) (leb n most) false

-- a number has a digit, and is from 1 to the most
abbrev pub number_trials : Quantity → ℕ → Number → List Trial
number_trials q most n =
    trial (eqb n.end n.at) (NoNumber q n.at) ∷ trial (not (in_range most n.value)) (OutOfRange q n.at n.value) ∷ []

-- the largest value of samples of 8 bits
abbrev pub largest_sample : ℕ
largest_sample = 255

-- width, height and the largest value, in their order
abbrev pub numbers_trials : Header → List Trial
numbers_trials h =
    number_trials Width largest_side h.width ++ number_trials Height largest_side h.height ++ number_trials Maxval largest_sample h.maxval

-- whitespace or a comment follows "P5"; then come the numbers
abbrev pub header_trials : List ℕ → Header → List Trial
header_trials f h = trial (not (opens f)) NotPgm ∷ trial (eqb h.width.at 2) (NoSpace 2) ∷ numbers_trials h

-- the place of the first sample above the most, where the samples needed begin at first, row after row, a byte each
abbrev pub bad_place : List ℕ → ℕ → ℕ → ℕ → ℕ
bad_place f first needed most = first + count_within most (take needed (drop first f))

-- as many samples as are needed, none above the most; what follows them is not looked at
abbrev pub raster_trials : List ℕ → ℕ → ℕ → ℕ → List Trial
raster_trials f first needed most =
    trial (ltb (length f - first) needed) (Short (length f - first) needed) ∷
    trial (ltb (bad_place f first needed most) (first + needed)) (BadSample (bad_place f first needed most) (get_or f (bad_place f first needed most) 0) most) ∷ []

-- one byte of whitespace, then a sample for each cell
abbrev pub sample_trials : List ℕ → Header → List Trial
sample_trials f h =
    trial (not (is_white (get_or f h.maxval.end 0))) (NoSpace h.maxval.end) ∷ raster_trials f (first_sample h) (area h) h.maxval.value

abbrev pub picture_trials : List ℕ → Header → List Trial
picture_trials f h = header_trials f h ++ sample_trials f h

-- ---- the answer

abbrev pub picture_of : Header → Picture
picture_of h = record { width = h.width.value; height = h.height.value; at = first_sample h }

abbrev pub answer_of : Result ⊤ PictureFault → Picture → Result Picture PictureFault
answer_of (Ok _) p = Ok p
answer_of (Err x) p = Err x

-- the picture of a file, or its first fault
abbrev pub picture_answer : List ℕ → Result Picture PictureFault
picture_answer f = answer_of (first_fault (picture_trials f (header_in f))) (picture_of (header_in f))
