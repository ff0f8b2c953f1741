-- Serves proofs: maps that hold what files draw, compared.
use Rattle.std.specs.Prelude.{◌≡◌, cond, List, ℕ, ◌/◌, ◌%◌, ◌≤◌, eqb, ltb, length, take, get_or, Ok}
use Rattle.geometry.specs.declared.Head.{Head}
use Rattle.geometry.specs.Forms.{kind_byte}
use Rattle.geometry.specs.Lists.{common}
use Rattle.geometry.specs.Plate.{area}
use Rattle.refusal.specs.Refusals.{written}
use Rattle.reading.specs.Reading.{IsReadable, head_in}
use Rattle.jobs.specs.Calls.{relief, draw_verdict}
use Rattle.comparison.specs.declared.Comparison.{Comparison}
use Rattle.comparison.specs.declared.Comparison.TheVariants.{Same, OtherKind, OtherSize, OtherCell}
use Rattle.comparison.specs.Comparing.{comparison_of}

-- how many cells two maps of a plate begin with alike
abbrev pub alike_in : Head → List ℕ → List ℕ → ℕ
alike_in p a b = common (take (area p) a) (take (area p) b)

-- two maps of one plate
abbrev pub maps_compared : Head → List ℕ → List ℕ → Comparison
maps_compared p a b =
    cond (ltb (alike_in p a b) (area p))
    (OtherCell (record { column = alike_in p a b % p.width; row = alike_in p a b / p.width; first = get_or a (alike_in p a b) 0; second = get_or b (alike_in p a b) 0 }))
    Same

-- two plates, then their maps
abbrev pub plates_compared : Head → Head → List ℕ → List ℕ → Comparison
plates_compared p o a b =
    cond (eqb (kind_byte p.kind) (kind_byte o.kind))
    (cond (eqb p.width o.width) (cond (eqb p.height o.height) (maps_compared p a b) OtherSize) OtherSize) OtherKind

-- a map begins with the relief that a readable file draws
pub record Holds (f m : List ℕ) : Type 0 where
  pub readable : IsReadable f
  pub room : area (head_in f) ≤ length m
  pub cells : take (area (head_in f)) m ≡ relief f

-- a second file, drawn and compared with the first
pub record SecondCompared (f g b b' : List ℕ) (r : Comparison) : Type 0 where
  pub answer : r ≡ comparison_of (Ok tt) (draw_verdict g b) f g
  pub bytes : b' ≡ written (draw_verdict g b) (relief g) b
