-- Pictures and their answers, computed.
use Rattle.std.specs.Prelude.{Result, Ok, Err}
use mathlib.Core.Path.{◌≡◌, refl}
use mathlib.Core.List.{[], ◌∷◌, map}
use Prim.Native.Nat.{ℕ}
use Rattle.numerals.specs.Numerals.{numeral, numeral_within}
use Rattle.phrases.specs.Phrases.{ascii}
use Rattle.pgm.specs.declared.Quantity.TheVariants.{Width, Height, Maxval}
use Rattle.pgm.specs.declared.PictureFault.TheVariants.{NotPgm, NoSpace, NoNumber, OutOfRange, Short, BadSample}
use Rattle.pgm.specs.Pgm.{gap, digits, number_from, number_after, count_within, picture_answer}
use Rattle.pgm_sentences.specs.Texts.{fault_text}
use Rattle.pgm.specs.declared.Picture.{Picture}
use Rattle.pgm.specs.declared.PictureFault.{PictureFault}

abbrev picture : ℕ → ℕ → ℕ → Result Picture PictureFault
picture w h at = Ok (record { width = w; height = h; at = at })

-- whitespace and comments in every place; surplus samples; one byte of whitespace and no more behind the largest value
pub found-pictures :
    map picture_answer (
    ascii "P5\n2 1\n255\nab" ∷ ascii "P5 2 1 255 abc" ∷ ascii "P5#x\n2#y\r\t1 # z\n\n099\nab" ∷ ascii "P5\r\n1\r\n1\r\n255\r\n" ∷ ascii "P5\n1 1\n35\n##" ∷ []
    )
    ≡ picture 2 1 11 ∷ picture 2 1 11 ∷ picture 2 1 21 ∷ picture 1 1 14 ∷ picture 1 1 10 ∷ []
unfolding gap digits number_from number_after count_within
found-pictures = refl

-- each fault
pub faulty-pictures :
    map picture_answer (
    [] ∷ ascii "P6\n1 1\n255\na" ∷ ascii "P51 1\n255\na" ∷ ascii "P5\n# ends" ∷ ascii "P5\n1 x" ∷ ascii "P5\n300 1\n255\na" ∷ ascii "P5\n1 0\n255\na" ∷
    ascii "P5\n1 1\n65535\nab" ∷ ascii "P5\n99999999999999999999 1\n255\na" ∷ ascii "P5\n1 1\n255" ∷ ascii "P5\n1 1\n255#a\na" ∷ ascii "P5\n2 2\n255\nabc" ∷
    ascii "P5\n2 1\n97\nab" ∷ []
    )
    ≡ map Err (
    NotPgm ∷ NotPgm ∷ NoSpace 2 ∷ NoNumber Width 9 ∷ NoNumber Height 5 ∷ OutOfRange Width 3 300 ∷ OutOfRange Height 5 0 ∷
    OutOfRange Maxval 7 65535 ∷ OutOfRange Width 3 65536 ∷ NoSpace 10 ∷ NoSpace 10 ∷ Short 3 4 ∷
    BadSample 11 98 97 ∷ []
    )
unfolding gap digits number_from number_after count_within
faulty-pictures = refl

-- and its sentence
pub fault-sentences :
    map fault_text (
    OutOfRange Width 3 300 ∷ OutOfRange Width 3 65536 ∷ OutOfRange Maxval 9 65535 ∷ Short 297 576 ∷ NoNumber Height 5 ∷ BadSample 20 200 99 ∷ []
    )
    ≡ ascii "the width at byte 3 is 300: sides are 1 to 240" ∷ ascii "the width at byte 3 is above 65535: sides are 1 to 240" ∷
    ascii "the largest value at byte 9 is 65535: samples of 8 bits have 1 to 255" ∷ ascii "the picture has 297 samples, 576 are needed" ∷
    ascii "no PGM picture: no height at byte 5" ∷ ascii "the sample at byte 20 is 200: the largest value is 99" ∷ []
unfolding numeral numeral_within
fault-sentences = refl
