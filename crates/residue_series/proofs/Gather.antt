-- Laws of lists that are gathered turn by turn: one turn more, parts, turns that give nothing, and rows of a map as places.
use mathlib.Core.Path.{◌≡◌, refl, sym, ap, ap₂, ◌∙◌}
use mathlib.Core.List.{List, [], ◌++◌, append-nil}
use Prim.Native.Nat.{ℕ, zero, suc, ◌+◌, ◌*◌, ◌-◌, ◌≤◌, ◌<◌}
use native.Mathlib.Omega.{arith}
use native.Mathlib.Nat.{zero-add, add-zero, add-suc, suc-mul, zero-mul}
use native.Mathlib.Numerals.{add-one}
use Rattle.geometry.specs.Lists.{gather}
use Rattle.theory.proofs.Lists.{gather-split, gather-more, gather-nil, gather-same}

module _ {A : Type 0} (qs : ℕ → List A) where
  -- the lists of some turns, and then those of the next ones
  pub gather-on : (n r : ℕ) → gather (n + r) 0 qs ≡ gather n 0 qs ++ gather r n qs
  gather-on n r = gather-split n r 0 qs ∙ ap (λ (k : ℕ). gather n 0 qs ++ gather r k qs) (zero-add n)

  pub gather-parts : (n total : ℕ) → n ≤ total → gather total 0 qs ≡ gather n 0 qs ++ gather (total - n) n qs
  gather-parts n total h = let e : total ≡ n + (total - n) = omega arith in ap (λ (k : ℕ). gather k 0 qs) e ∙ gather-on n (total - n)

  pub gather-turn : (n : ℕ) → gather (n + 1) 0 qs ≡ gather n 0 qs ++ qs n
  gather-turn n = gather-more n 0 qs ∙ ap (λ (k : ℕ). gather n 0 qs ++ qs k) (zero-add n)

  -- lists that are all empty
  pub gather_none : (n i : ℕ) → ((j : ℕ) → i ≤ j → j < i + n → qs j ≡ []) → gather n i qs ≡ []
  gather_none n i h = gather-same n i qs (λ j. []) h ∙ gather-nil n i (λ j. []) (λ j g. refl)

  -- turns after which the others give nothing
  pub gather-stops : (n total : ℕ) → n ≤ total → ((j : ℕ) → n ≤ j → j < total → qs j ≡ []) → gather total 0 qs ≡ gather n 0 qs
  gather-stops n total h e =
      gather-parts n total h ∙ ap (λ l. gather n 0 qs ++ l) (gather_none (total - n) n (λ j a b. e j a (omega arith))) ∙ append-nil (gather n 0 qs)

  gather-shift : (n i j : ℕ) → gather n (i + j) qs ≡ gather n j (λ k. qs (i + k))
  gather-shift zero i j = refl
  gather-shift (suc n) i j = ap (λ (k : ℕ). qs (i + j) ++ gather n k qs) (sym (add-suc i j)) ∙ ap (λ l. qs (i + j) ++ l) (gather-shift n i (suc j))

  -- n turns from one on
  pub gather-from : (n i : ℕ) → gather n i qs ≡ gather n 0 (λ k. qs (i + k))
  gather-from n i = ap (λ (k : ℕ). gather n k qs) (sym (add-zero i)) ∙ gather-shift n i 0

  -- rows of w are places one after the other
  pub gather-flat : (w : ℕ) (g : ℕ → ℕ → List A) (h : ℕ) → ((y x : ℕ) → y < h → x < w → qs (y * w + x) ≡ g y x)
      → gather h 0 (λ y. gather w 0 (g y)) ≡ gather (h * w) 0 qs
  gather-flat w g zero e = sym (ap (λ (k : ℕ). gather k 0 qs) (zero-mul w))
  gather-flat w g (suc h) e =
      ap (λ (k : ℕ). gather k 0 (λ y. gather w 0 (g y))) (sym (add-one h))
      ∙ gather-more h 0 (λ y. gather w 0 (g y)) ∙ ap (λ (k : ℕ). gather h 0 (λ y. gather w 0 (g y)) ++ gather w 0 (g k)) (zero-add h)
      ∙ ap₂ (λ l o. l ++ o) (gather-flat w g h (λ y x a b. e y x (omega arith) b))
      (sym (gather-from w (h * w) ∙ gather-same w 0 _ (g h) (λ x a b. e h x (omega arith) (omega arith))))
      ∙ sym (ap (λ (k : ℕ). gather k 0 qs) (suc-mul h w) ∙ gather-on (h * w) w)
