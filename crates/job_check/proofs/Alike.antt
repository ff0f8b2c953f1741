-- When two files are alike.
use Rattle.std.specs.Prelude.{Ok, Err}
use mathlib.Core.Path.{◌≡◌, refl, sym, ap, ap₂, ◌∙◌}
use mathlib.Core.Bool.{Bool, true, false, cond}
use mathlib.Core.List.{List, [], ◌∷◌}
use Prim.Native.Nat.{ℕ, suc}
use native.Mathlib.Omega.{arith}
use borrow.Author.Tests.{eq-eqb, eqb-true}
use lib.Dec.{eqb}
use lib.ListN.{length}
use Rattle.refusal.specs.declared.Refusal.{Refusal}
use Rattle.refusal.specs.Refusals.{Verdict}
use Rattle.geometry.specs.Lists.{common}
use Rattle.job_check.specs.Checking.{alike}

pub refused-not : {A : Type 0} (r : Refusal) → ◌≡◌ {A = Verdict} (Err r) (Ok tt) → A
refused-not r e = let z : ◌≡◌ {A = ℕ} 0 1 = cc in absurd (omega arith)

-- a list that agrees with itself, and lists that agree to the end of both
pub common-self : (l : List ℕ) → common l l ≡ length l
common-self [] = refl
common-self (a ∷ l) = rw (eq-eqb a a refl) (ap suc (common-self l))

common-whole : (f g : List ℕ) → length f ≡ length g → common f g ≡ length f → f ≡ g
common-whole [] [] e = λ h. refl
common-whole [] (b ∷ g) e = λ h. absurd (omega arith)
common-whole (a ∷ f) [] e = λ h. absurd (omega arith)
common-whole (a ∷ f) (b ∷ g) e = go (common-whole f g) (eqb a b) refl
  where
    go : (length f ≡ length g → common f g ≡ length f → f ≡ g) → (t : Bool) → eqb a b ≡ t → cond t (suc (common f g)) 0 ≡ suc (length f) → a ∷ f ≡ b ∷ g
    go more true s h = ap₂ (λ (n : ℕ) (l : List ℕ). n ∷ l) (eqb-true a b s) (more (omega arith) (omega arith))
    go more false s h = absurd (omega arith)

pub alike_same : (f g : List ℕ) → f ≡ g → alike f g ≡ true
alike_same f g e = ap (alike f) (sym e) ∙ rw (eq-eqb (length f) (length f) refl) (eq-eqb _ _ (common-self f))

pub alike-equal : (f g : List ℕ) → alike f g ≡ true → f ≡ g
alike-equal f g = go (eqb (length f) (length g)) refl
  where
    go : (t : Bool) → eqb (length f) (length g) ≡ t → cond t (eqb (common f g) (length f)) false ≡ true → f ≡ g
    go true s h = common-whole f g (eqb-true _ _ s) (eqb-true _ _ h)
    go false s h = let z : ◌≡◌ {A = ℕ} 0 1 = cc in absurd (omega arith)
