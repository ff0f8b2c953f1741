-- Laws of the common beginning of two lists, as bytes are added.
use mathlib.Core.Path.{◌≡◌, refl, sym}
use mathlib.Core.Bool.{Bool, true, false, cond}
use mathlib.Core.List.{List, [], ◌∷◌, ◌++◌}
use Prim.Native.Nat.{ℕ, suc, ◌+◌, ◌≤◌, ◌<◌}
use native.Mathlib.Omega.{arith}
use native.Mathlib.Nat.{zero-add}
use lib.Dec.{eqb}
use lib.ListN.{length, drop}
use Rattle.geometry.specs.Lists.{common}

pub common-le : (fs bs : List ℕ) → common fs bs ≤ length bs
common-le fs [] = omega arith
common-le [] (b ∷ bs) = omega arith
common-le (a ∷ fs) (b ∷ bs) = go (eqb a b) (common-le fs bs)
  where
    go : (t : Bool) → common fs bs ≤ length bs → cond t (suc (common fs bs)) 0 ≤ suc (length bs)
    go true h = omega arith
    go false h = omega arith

-- where all of the bytes are there, the next ones are looked for after them
pub common-on : (fs bs cs : List ℕ) → common fs bs ≡ length bs → common fs (bs ++ cs) ≡ length bs + common (drop (length bs) fs) cs
common-on fs [] cs e = sym (zero-add (common fs cs))
common-on [] (b ∷ bs) cs e = absurd (omega arith)
common-on (a ∷ fs) (b ∷ bs) cs e = go (eqb a b) e (common-on fs bs cs)
  where
    go : (t : Bool) → cond t (suc (common fs bs)) 0 ≡ suc (length bs)
        → (common fs bs ≡ length bs → common fs (bs ++ cs) ≡ length bs + common (drop (length bs) fs) cs)
        → cond t (suc (common fs (bs ++ cs))) 0 ≡ suc (length bs) + common (drop (length bs) fs) cs
    go true h r = omega (arith, r (omega arith))
    go false h r = absurd (omega arith)

-- where one of them is not, more bytes change nothing
pub common-off : (fs bs cs : List ℕ) → common fs bs < length bs → common fs (bs ++ cs) ≡ common fs bs
common-off fs [] cs h = absurd (omega arith)
common-off [] (b ∷ bs) cs h = refl
common-off (a ∷ fs) (b ∷ bs) cs h = go (eqb a b) h (common-off fs bs cs)
  where
    go : (t : Bool) → cond t (suc (common fs bs)) 0 < suc (length bs) → (common fs bs < length bs → common fs (bs ++ cs) ≡ common fs bs)
        → cond t (suc (common fs (bs ++ cs))) 0 ≡ cond t (suc (common fs bs)) 0
    go true g r = omega (arith, r (omega arith))
    go false g r = refl
