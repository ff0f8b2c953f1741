-- How long a line is.
use mathlib.Core.Path.{◌≡◌}
use mathlib.Core.List.{List, [], ◌∷◌, ◌++◌}
use Prim.Native.Nat.{ℕ, ◌+◌, ◌≤◌, ◌<◌}
use native.Mathlib.Omega.{arith}
use lib.ListN.{length, length-append}
use lib.Dec.{lit<}
use Rattle.geometry.specs.declared.Kind.{Kind}
use Rattle.geometry.specs.declared.Kind.TheVariants.{Diamond, Square}
use Rattle.geometry.specs.declared.Head.{Head}
use Rattle.geometry.specs.declared.Plunge.{Plunge}
use Rattle.geometry.specs.Forms.{kind_byte}
use Rattle.numerals.specs.Numerals.{numeral}
use Rattle.numerals.proofs.Sizes.{numeral-most, numeral-short}
use Rattle.text_lines.specs.Text.{line_room, word, plate_word, total_word, refused_word, plate_line, plunge_line, total_line}

word-length : (n mark : ℕ) → length (word n mark) ≡ length (numeral n) + 1
word-length n mark = length-append (numeral n) (mark ∷ [])

pub refusal-room : (number place : ℕ) (page : List ℕ) → 64 ≤ length page → 0 + length (refused_word ++ word number 32 ++ word place 10) ≤ length page
refusal-room number place page h =
    omega (
      arith,
      length-append (refused_word ++ word number 32) (word place 10),
      length-append refused_word (word number 32),
      word-length number 32,
      word-length place 10,
      numeral-most number,
      numeral-most place,
    )

pub total-room : (n : ℕ) → length (total_line n) ≤ line_room
total-room n = omega (arith, length-append total_word (word n 10), word-length n 10, numeral-most n)

-- a word of a number below 65536 has six characters at most
word-short : (n mark : ℕ) → n < 65536 → length (word n mark) ≤ 6
word-short n mark h = omega (arith, word-length n mark, numeral-short 4 n (omega arith))

pub plunge-room : (q : Plunge) → q.column < 65536 → q.row < 65536 → q.reach.0 < 65536 → q.depth < 65536 → length (plunge_line q) ≤ line_room
plunge-room q c r k d =
    omega (
      arith,
      length-append (word q.reach.0 32 ++ word q.row 32 ++ word q.column 32) (word q.depth 10),
      length-append (word q.reach.0 32 ++ word q.row 32) (word q.column 32),
      length-append (word q.reach.0 32) (word q.row 32),
      word-short q.reach.0 32 k,
      word-short q.row 32 r,
      word-short q.column 32 c,
      word-short q.depth 10 d,
    )

pub plate-room : (p : Head) → p.width < 65536 → p.height < 65536 → length (plate_line p) ≤ line_room
plate-room p w h =
    omega (
      arith,
      length-append (plate_word ++ word (kind_byte p.kind) 32 ++ word p.width 32) (word p.height 10),
      length-append (plate_word ++ word (kind_byte p.kind) 32) (word p.width 32),
      length-append plate_word (word (kind_byte p.kind) 32),
      word-short (kind_byte p.kind) 32 (kind-short p.kind),
      word-short p.width 32 w,
      word-short p.height 10 h,
    )
  where
    kind-short : (k : Kind) → kind_byte k < 65536
    kind-short Diamond = lit< tt
    kind-short Square = lit< tt
