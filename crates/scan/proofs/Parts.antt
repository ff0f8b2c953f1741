-- Laws of a list's part from a place to its end, as a returned slice gives it.
use mathlib.Core.Path.{◌≡◌, sym, ◌∙◌, ap, subst}
use mathlib.Core.List.{List}
use Prim.Native.Nat.{ℕ, ◌-◌, ◌<◌}
use native.Mathlib.Omega.{arith}
use lib.ListN.{length, take, drop, length-drop, drop_of_length-le}
use lib.Seq.{take-length, drop-length}

-- all of what follows a place
pub part-rest : (l : List ℕ) (n : ℕ) → take (length l - n) (drop n l) ≡ drop n l
part-rest l n = ap (λ k. take k (drop n l)) (sym (length-drop n l)) ∙ take-length (drop n l)

-- past the end there is nothing
pub part_none : (l : List ℕ) (n : ℕ) → length l < n → take (length l - length l) (drop (length l) l) ≡ drop n l
part_none l n h = part-rest l (length l) ∙ drop-length l ∙ sym (drop_of_length-le l {i = n} (omega arith))

-- what holds of four values holds of what they are equal to
pub same-four : (P : List ℕ → ℕ → ℕ → ℕ → Type 0) (m n : List ℕ) (k w h i j l : ℕ) → m ≡ n → k ≡ i → w ≡ j → h ≡ l → P m k w h → P n i j l
same-four P m n k w h i j l a b c d p = subst (λ x. P n i j x) d (subst (λ x. P n i x h) c (subst (λ x. P n x w h) b (subst (λ x. P x k w h) a p)))
