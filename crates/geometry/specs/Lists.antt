-- To be believed: the few words about lists and numbers that every definition is made of.
use Rattle.std.specs.Prelude.{◌≡◌, Bool, true, false, cond, List, [], ◌∷◌, ◌++◌, ℕ, zero, suc, ◌+◌, ◌≤◌, min, max, eqb}

module _ {A : Type 0} where
  -- f i, then f (i + 1), and so on: n lists in one
  abbrev pub gather : ℕ → ℕ → (ℕ → List A) → List A
  gather zero i f = []
  gather (suc n) i f = f i ++ gather n (suc i) f

  -- the members that pass a test, in their order
  abbrev pub select : (A → Bool) → List A → List A
  select f [] = []
  select f (a ∷ more) = cond (f a) (a ∷ select f more) (select f more)

  -- whether some member passes a test
  abbrev pub any : (A → Bool) → List A → Bool
  any f [] = false
  any f (a ∷ more) = cond (f a) true (any f more)

  -- v is f at one that is Among, and comes before f at every one that is, in the order R
  pub record Extreme (R : ℕ → ℕ → Type 0) (Among : A → Type 0) (f : A → ℕ) (v : ℕ) : Type 0 where
    pub bound : (a : A) → Among a → R v (f a)
    pub met : (a : A) × Among a × (f a ≡ v)

  -- v is the lowest of f at those that are Among; the highest
  abbrev pub Lowest : (A → Type 0) → (A → ℕ) → ℕ → Type 0
  Lowest = Extreme ◌≤◌

  abbrev pub Highest : (A → Type 0) → (A → ℕ) → ℕ → Type 0
  Highest = Extreme (λ v n. n ≤ v)

-- the numbers of a list, joined from its end on, which is a
abbrev pub fold : (ℕ → ℕ → ℕ) → ℕ → List ℕ → ℕ
fold op a [] = a
fold op a (n ∷ ns) = op n (fold op a ns)

-- the lowest of a and the numbers of a list; the highest; the sum of a list
abbrev pub lowest : ℕ → List ℕ → ℕ
lowest = fold min

abbrev pub highest : ℕ → List ℕ → ℕ
highest = fold max

abbrev pub sum : List ℕ → ℕ
sum = fold ◌+◌ 0

-- the length of the common beginning of two lists
abbrev pub common : List ℕ → List ℕ → ℕ
common fs [] = 0
common [] (b ∷ bs) = 0
common (a ∷ fs) (b ∷ bs) = cond (eqb a b) (suc (common fs bs)) 0
