-- Serves proofs: what the text of a float means: no shorter decimal and none as short is nearer, and it reads back as the float.
use Rattle.std.specs.Prelude.{◌≡◌, false, List, ℕ, ◌+◌, ◌*◌, ◌^◌, ◌≤◌, ◌<◌, Float}
use Rattle.std.specs.Float.{binary64}
use Rattle.std.specs.Float.Ieee.{round}
use Rattle.std.specs.Float.Ieee.Nearest.{closest}
use Rattle.decimal_text.specs.declared.Digits.{Digits}
use Rattle.decimal_text.specs.declared.Parts.{Parts}
use Rattle.decimal_text.specs.Digits.{one, most_digits}
use Rattle.decimal_text.specs.Text.{text_of}

-- n over 10^k is nearer to a fraction than half
abbrev pub NearerThanHalf : ℕ → ℕ → ℕ → ℕ → Type 0
NearerThanHalf fraction half n k = (n * one < (fraction + half) * 10 ^ k) × (fraction * 10 ^ k < n * one + half * 10 ^ k)

-- no fewer digits are within half, and no other number of as many digits is nearer; a tie goes to the even one
pub record Shortest (fraction half : ℕ) (d : Digits) : Type 0 where
  pub within : NearerThanHalf fraction half d.number d.count
  pub fewest : (n k : ℕ) → k < d.count → NearerThanHalf fraction half n k → ⊥
  pub nearest : d.number ≡ closest (fraction * 10 ^ d.count) one
  pub few : d.count ≤ most_digits

-- bytes show the shortest decimal of the float x with these parts, which reads back as x
pub record Shown (x : Float) (p : Parts) (bs : List ℕ) : Type 0 where
  pub digits : Digits
  pub text : bs ≡ text_of p.whole digits
  pub proper : digits.number < 10 ^ digits.count
  pub shortest : Shortest p.fraction p.half digits
  pub reads : round binary64 false (p.whole * 10 ^ digits.count + digits.number) (10 ^ digits.count) ≡ x
