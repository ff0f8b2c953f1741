-- Serves proofs: drawing reach by reach, from the largest down: what the balls draw, each narrower by r, and what the plunges of reach r add at their centres.
use Rattle.std.specs.Prelude.{Bool, false, cond, List, map, ℕ, ◌+◌, leb, eqb}
use Rattle.geometry.specs.declared.Kind.{Kind}
use Rattle.geometry.specs.declared.Plunge.{Plunge}
use Rattle.geometry.specs.Lists.{select, highest}
use Rattle.geometry.specs.Plane.{Cell, dist}
use Rattle.geometry.specs.Plunges.{centre}

-- the highest depth among the plunges that pass a test, 0 if none
unfoldable pub deepest : (Plunge → Bool) → List Plunge → ℕ
deepest t qs = highest 0 (map (λ q. q.depth) (select t qs))

-- the depth that a cell gets from the balls, each r narrower
abbrev pub drawn_from : Kind → ℕ → List Plunge → Cell → ℕ
drawn_from kd r qs c = deepest (λ q. leb (dist kd (centre q) c + r) q.reach.0) qs

-- the depth that a cell gets from the plunges of reach r centred at it
abbrev pub centred_depth : Kind → ℕ → List Plunge → Cell → ℕ
centred_depth kd r qs c = deepest (λ q. cond (eqb q.reach.0 r) (eqb (dist kd (centre q) c) 0) false) qs
