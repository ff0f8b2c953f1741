-- Laws of a place and its neighbours in three rows: the highest of the neighbours as the code compares them, and a number kept by it.
use mathlib.Core.Path.{◌≡◌, refl, ap₂, ◌∙◌}
use mathlib.Core.List.{List, [], ◌∷◌}
use Prim.Native.Nat.{ℕ, ◌+◌, ◌-◌, ◌≤◌, ◌<◌, max}
use native.Mathlib.Omega.{arith}
use lib.ListN.{get_or}
use Rattle.geometry.specs.declared.Kind.{Kind}
use Rattle.geometry.specs.declared.Kind.TheVariants.{Diamond, Square}
use Rattle.geometry.specs.Lists.{highest}
use Rattle.window.specs.Windows.{around}
use Rattle.row_arrays.specs.Rows.{highest_beside}
use Rattle.row_filter.specs.Filter.{window_rows, kept}
use Rattle.row_filter.proofs.Keeping.{keeps, drops}

swap : (a b : ℕ) → max a b ≡ max b a
swap a b = omega arith

shift : (a b c : ℕ) → max (max a b) c ≡ max a (max b c)
shift a b c = omega arith

past : (a b c : ℕ) → max a (max b c) ≡ max b (max a c)
past a b c = omega arith

none : (a : ℕ) → max a 0 ≡ a
none a = omega arith

four : (n w e s : ℕ) → max (max w e) (max n s) ≡ max n (max w (max e (max s 0)))
four n w e s = simp (none, swap, shift, past)

eight : (a n b w e d s g : ℕ)
    → max (max w e) (max (max n (max a b)) (max s (max d g))) ≡ max a (max n (max b (max w (max e (max d (max s (max g 0)))))))
eight a n b w e d s g = simp (none, shift, past)

-- the two beside a place in its row, and those of the rows above and below
highest-in : (kd : Kind) (above mid below : List ℕ) (n : ℕ)
    → max (max (get_or mid (n - 1) 0) (get_or mid (n + 1) 0)) (max (highest_beside kd above n) (highest_beside kd below n))
    ≡ highest 0 (around kd (window_rows above mid below n))
highest-in Diamond above mid below n = four _ _ _ _
highest-in Square above mid below n = eight _ _ _ _ _ _ _ _

pub highest-around : (kd : Kind) (above mid below : List ℕ) (n : ℕ) {r along beside up down : ℕ} → r ≡ max along beside
    → along ≡ max (get_or mid (n - 1) 0) (get_or mid (n + 1) 0) → beside ≡ max up down → up ≡ highest_beside kd above n → down ≡ highest_beside kd below n
    → r ≡ highest 0 (around kd (window_rows above mid below n))
highest-around kd above mid below n a b c d e = a ∙ ap₂ max b (c ∙ ap₂ max d e) ∙ highest-in kd above mid below n

-- with the place's own number counted too
highest-with : (n : ℕ) (ns : List ℕ) → highest n ns ≡ max (highest 0 ns) n
highest-with n [] = omega arith
highest-with n (a ∷ ns) = omega (arith, highest-with n ns)

-- a number is kept where no neighbour's is larger
module _ (kd : Kind) (above mid below : List ℕ) (n h : ℕ) (e : h ≡ highest 0 (around kd (window_rows above mid below n))) where
  abbrev ns : List ℕ
  ns = around kd (window_rows above mid below n)

  pub kept-number : h ≤ get_or mid n 0 → get_or mid n 0 ≡ kept kd (window_rows above mid below n)
  kept-number l = keeps (highest (get_or mid n 0) ns) _ (get_or mid n 0) refl (omega (arith, highest-with (get_or mid n 0) ns))

  pub kept-none : get_or mid n 0 < h → 0 ≡ kept kd (window_rows above mid below n)
  kept-none l = drops (highest (get_or mid n 0) ns) _ (get_or mid n 0) refl (omega (arith, highest-with (get_or mid n 0) ns))
