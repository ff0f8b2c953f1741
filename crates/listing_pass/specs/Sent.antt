-- Serves proofs: a pass over bytes that a file is made of: they are written to an output, compared with a file, or staged.
use Rattle.std.specs.Prelude.{◌≡◌, List, ℕ, ◌+◌, ◌≤◌, eqb, length, drop}
use Rattle.geometry.specs.Lists.{common}
use Rattle.fields.specs.Writing.{spliced}
use Rattle.listing_pass.specs.declared.Pass.{Pass}
use Rattle.listing_pass.specs.declared.Pass.TheVariants.{Write, Compare, Stage}
use Rattle.listing_pass.specs.declared.Progress.{Progress}

-- how many of the bytes bs a pass goes over at a place: a comparison ends at "the first byte unlike", or at the file's end
abbrev pub reached : Pass → List ℕ → ℕ → List ℕ → ℕ
reached Write file at bs = length bs
reached Compare file at bs = common (drop at file) bs
reached Stage file at bs = length bs

-- an output keeps its length, and has the bytes bs at a place if there is room for all of them
abbrev pub Staged : List ℕ → ℕ → List ℕ → List ℕ → Type 0
Staged old at bs new = (length new ≡ length old) × (at + length bs ≤ length old → new ≡ spliced old at bs)

-- what a pass leaves of an output
abbrev pub Passed : Pass → List ℕ → ℕ → List ℕ → List ℕ → Type 0
Passed Write old at bs new = new ≡ spliced old at bs
Passed Compare old at bs new = new ≡ old
Passed Stage old at bs new = Staged old at bs new

-- a pass over the bytes bs from a place on: where it came to, and whether it went over all of them
pub record Sent (pass : Pass) (file : List ℕ) (at : ℕ) (bs old new : List ℕ) (r : Progress) : Type 0 where
  pub place : r.at ≡ at + reached pass file at bs
  pub like : r.like ≡ eqb (reached pass file at bs) (length bs)
  pub bytes : Passed pass old at bs new

-- a comparison of the bytes bs with a file from a place on
pub record Compared (file : List ℕ) (at : ℕ) (bs : List ℕ) (r : Progress) : Type 0 where
  pub place : r.at ≡ at + common (drop at file) bs
  pub like : r.like ≡ eqb (common (drop at file) bs) (length bs)

-- a pass that writes has room in the output up to a place
abbrev pub Room : Pass → ℕ → List ℕ → Type 0
Room pass n out = pass ≡ Write → n ≤ length out
