-- To be believed: how many changes of the electrode a whole list asks for.
use Rattle.std.specs.Prelude.{cond, List, [], ◌∷◌, ℕ, zero, suc, ◌+◌, eqb}
use Rattle.geometry.specs.declared.Plunge.{Plunge}
use Rattle.geometry.specs.Lists.{any}

-- changes after a plunge of reach r: one wherever the reach differs from the plunge before
abbrev pub changes_after : ℕ → List Plunge → ℕ
changes_after r [] = 0
changes_after r (q ∷ qs) = cond (eqb q.reach.0 r) 0 1 + changes_after q.reach.0 qs

-- of a whole list: the first plunge always changes
abbrev pub changes_in : List Plunge → ℕ
changes_in [] = 0
changes_in (q ∷ qs) = 1 + changes_after q.reach.0 qs

-- how many of the reaches below a limit some plunge has
abbrev pub reaches_below : ℕ → List Plunge → ℕ
reaches_below zero qs = 0
reaches_below (suc r) qs = reaches_below r qs + cond (any (λ q. eqb q.reach.0 r) qs) 1 0
