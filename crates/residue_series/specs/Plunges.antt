-- Serves proofs: the listing by places, and the plunges that an array of marks stands for.
use Rattle.std.specs.Prelude.{cond, List, [], ◌∷◌, ◌++◌, ℕ, ◌+◌, ◌-◌, ◌%◌, ◌/◌, eqb, get_or}
use Rattle.geometry.specs.declared.Head.{Head}
use Rattle.geometry.specs.declared.Plunge.{Plunge}
use Rattle.geometry.specs.Lists.{gather}
use Rattle.theory.specs.Listing.{listed_at}

-- the plunges of the listing that have reach r; the one at place n of a plate
abbrev pub listed_reach : Head → List ℕ → ℕ → List Plunge
listed_reach p m r = gather p.height 0 (λ y. gather p.width 0 (λ x. listed_at p m r x y))

abbrev pub place_listed : Head → List ℕ → ℕ → ℕ → List Plunge
place_listed p m r n = listed_at p m r (n % p.width) (n / p.width)

-- the listing up to place n of reach k - 1
abbrev pub so_far : Head → List ℕ → ℕ → ℕ → List Plunge
so_far p m k n = gather (k - 1) 0 (listed_reach p m) ++ gather n 0 (place_listed p m (k - 1))

-- the plunge of reach r at place n of a map with rows of width w: column n % w of row n / w
abbrev pub plunge_at : ℕ → ℕ → ℕ → ℕ → Plunge
plunge_at w r n d = record { column = n % w; row = n / w; reach = record { 0 = r }; depth = d }

-- the plunge f that a mark at place n stands for: none for 0, else the mark is its depth
abbrev pub on_mark : (ℕ → ℕ → Plunge) → ℕ → ℕ → List Plunge
on_mark f n mark = cond (eqb mark 0) [] (f n mark ∷ [])

-- those of an array of marks, for places from one on
abbrev pub marks_to : ℕ → (ℕ → ℕ → Plunge) → ℕ → List ℕ → List Plunge
marks_to n f start marks = gather n 0 (λ i. on_mark f (start + i) (get_or marks i 0))
