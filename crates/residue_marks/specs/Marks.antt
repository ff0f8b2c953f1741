-- Serves proofs: the marks of a run: what a mark is, how many there are, which places are marked.
use Rattle.std.specs.Prelude.{◌≡◌, cond, List, [], ◌∷◌, ◌++◌, ℕ, zero, suc, ◌+◌, ◌-◌, ◌≤◌, eqb, ltb, length, get_or, take}
use Rattle.geometry.specs.Lists.{gather}

-- the places of an array of marks, more than a run has
abbrev pub mark_places : ℕ
mark_places = 2048

-- the places passed over at once
abbrev pub block : ℕ
block = 8

-- the depth a where b taken off it leaves something, "a cell with residue k above 0", else 0
abbrev pub mark_of : ℕ → ℕ → ℕ
mark_of a b = cond (ltb b a) a 0

-- how many marks a mark is
abbrev pub counted : ℕ → ℕ
counted v = cond (eqb v 0) 0 1

-- how many marks stand before place n of an array
abbrev pub tally : List ℕ → ℕ → ℕ
tally marks zero = 0
tally marks (suc n) = tally marks n + counted (get_or marks n 0)

-- places of an array of marks, few enough that their marks are counted in a byte
pub record CountRun (from to : ℕ) (marks : List ℕ) : Type 0 where
  pub ordered : from ≤ to
  pub within : to ≤ mark_places
  pub few : to ≤ from + 255
  pub size : length marks ≡ mark_places

-- a place where it is marked; the marked ones of n places from one on
abbrev pub on_place : List ℕ → ℕ → List ℕ
on_place marks i = cond (eqb (get_or marks i 0) 0) [] (i ∷ [])

abbrev pub marked_places : List ℕ → ℕ → ℕ → List ℕ
marked_places marks n from = gather n from (on_place marks)

-- what noting places asks: no more are noted than lie before the first
pub record NotePlaces (from to count : ℕ) (marks noted : List ℕ) : Type 0 where
  pub ordered : from ≤ to
  pub within : to ≤ mark_places
  pub few : count ≤ from
  pub size : length marks ≡ mark_places
  pub room : length noted ≡ mark_places

-- the marked places from one up to another stand behind those noted before
pub record Noted (marks : List ℕ) (from to count : ℕ) (old : List ℕ) (r : ℕ) (new : List ℕ) : Type 0 where
  pub few : r ≤ to
  pub same : length new ≡ length old
  pub places : take r new ≡ take count old ++ marked_places marks (to - from) from
