-- To be believed: a sentence for each fault of a picture.
use Rattle.std.specs.Prelude.{cond, List, [], ◌++◌, ℕ, ◌-◌, ltb}
use Rattle.numerals.specs.Numerals.{numeral}
use Rattle.refusal.specs.Refusals.{largest_side}
use Rattle.phrases.specs.Phrases.{ascii, phrase}
use Rattle.pgm.specs.declared.Quantity.{Quantity}
use Rattle.pgm.specs.declared.Quantity.TheVariants.{Width, Height, Maxval}
use Rattle.pgm.specs.declared.PictureFault.{PictureFault}
use Rattle.pgm.specs.declared.PictureFault.TheVariants.{NotPgm, NoSpace, NoNumber, OutOfRange, Short, BadSample}
use Rattle.pgm.specs.Pgm.{largest_number, largest_sample}

abbrev pub quantity_name : Quantity → List ℕ
quantity_name Width = ascii "width"
quantity_name Height = ascii "height"
quantity_name Maxval = ascii "largest value"

-- a number of the header, and where it stands or should stand
abbrev pub place_text : Quantity → ℕ → List ℕ
place_text q place = quantity_name q ++ ascii " at byte " ++ numeral place

-- the number that was found
abbrev pub found_text : ℕ → List ℕ
found_text n = cond (ltb n largest_number) (numeral n) (phrase (ascii "above ") (largest_number - 1) [])

-- what a number of the header may be
abbrev pub range_text : Quantity → List ℕ
range_text Width = phrase (ascii ": sides are 1 to ") largest_side []
range_text Height = phrase (ascii ": sides are 1 to ") largest_side []
range_text Maxval = phrase (ascii ": samples of 8 bits have 1 to ") largest_sample []

abbrev pub out_text : Quantity → ℕ → ℕ → List ℕ
out_text q place n = ascii "the " ++ place_text q place ++ ascii " is " ++ found_text n ++ range_text q

abbrev pub short_text : ℕ → ℕ → List ℕ
short_text found needed = phrase (ascii "the picture has ") found (ascii " samples, ") ++ numeral needed ++ ascii " are needed"

abbrev pub sample_text : ℕ → ℕ → ℕ → List ℕ
sample_text place found most =
    phrase (ascii "the sample at byte ") place (ascii " is ") ++ phrase [] found (ascii ": the largest value is ") ++ numeral most

abbrev pub fault_text : PictureFault → List ℕ
fault_text NotPgm = ascii "no PGM picture: it does not begin with P5"
fault_text (NoSpace place) = phrase (ascii "no PGM picture: no whitespace at byte ") place []
fault_text (NoNumber q place) = ascii "no PGM picture: no " ++ place_text q place
fault_text (OutOfRange q place n) = out_text q place n
fault_text (Short found needed) = short_text found needed
fault_text (BadSample place found most) = sample_text place found most
