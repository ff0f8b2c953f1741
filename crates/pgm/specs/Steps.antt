-- Serves proofs: one check after another, a header whose numbers have room in a picture, and a picture that lies in its file.
use Rattle.std.specs.Prelude.{List, ℕ, ◌+◌, ◌*◌, ◌≤◌, ◌<◌, length, Result, Ok, Err, ⊤}
use Rattle.refusal.specs.Refusals.{largest_side}
use Rattle.pgm.specs.declared.Header.{Header}
use Rattle.pgm.specs.declared.Picture.{Picture}
use Rattle.pgm.specs.declared.PictureFault.{PictureFault}

-- the first fault of two checks
abbrev pub first_of : Result ⊤ PictureFault → Result ⊤ PictureFault → Result ⊤ PictureFault
first_of (Ok _) b = b
first_of (Err x) b = Err x

pub record Sized (h : Header) : Type 0 where
  pub width_small : h.width.value ≤ largest_side
  pub height-small : h.height.value ≤ largest_side
  pub end-small : h.maxval.end < 18446744073709551615

pub record Lies (f : List ℕ) (p : Picture) : Type 0 where
  pub width_small : p.width ≤ largest_side
  pub height-small : p.height ≤ largest_side
  pub inside : p.at + p.height * p.width ≤ length f
