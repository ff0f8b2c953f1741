-- Serves proofs: numbers that have room in the fields of a size.
use Rattle.std.specs.Prelude.{ℕ, ◌<◌}
use Rattle.geometry.specs.declared.Head.{Head}
use Rattle.geometry.specs.declared.Plunge.{Plunge}
use Rattle.geometry.specs.declared.Size.{Size}
use Rattle.geometry.specs.declared.Size.TheVariants.{Small, Large}

-- a number of one byte, or of two
abbrev pub NumberFits : Size → ℕ → Type 0
NumberFits Small n = n < 256
NumberFits Large n = n < 65536

-- those of a head, and of a plunge
pub record HeadFits (s : Size) (p : Head) : Type 0 where
  pub width : NumberFits s p.width
  pub height : NumberFits s p.height

pub record PlungeFits (s : Size) (q : Plunge) : Type 0 where
  pub column : NumberFits s q.column
  pub row : NumberFits s q.row
  pub reach : NumberFits s q.reach.0
