-- Two readable files compare as the same exactly where their canonical forms are equal: demand 3 decides.
use mathlib.Core.Path.{◌≡◌, refl, sym, ap, ap₂, ◌∙◌, subst}
use mathlib.Core.Logic.{◌↔◌}
use mathlib.Core.Bool.{Bool, true, false, cond}
use mathlib.Core.List.{List, [], ◌∷◌}
use Prim.Native.Nat.{ℕ, suc, ◌≤◌}
use native.Mathlib.Nat.{le_antisymm}
use native.Mathlib.Omega.{arith}
use borrow.Author.Tests.{eq-eqb, eqb-true, le-ltb, ltb-false}
use lib.Dec.{eqb, ltb}
use lib.ListN.{length}
use Rattle.geometry.specs.declared.Kind.{Kind}
use Rattle.geometry.specs.declared.Kind.TheVariants.{Diamond, Square}
use Rattle.geometry.specs.declared.Head.{Head}
use Rattle.geometry.specs.Forms.{kind_byte}
use Rattle.geometry.specs.Lists.{common}
use Rattle.geometry.specs.Plane.{Cell}
use Rattle.geometry.specs.Plate.{On, area, at, tabulated}
use Rattle.theory.specs.Listing.{drawn}
use Rattle.theory.proofs.Plate.{length-tabulated, at-tabulated, tabulated-same}
use Rattle.reading.specs.Reading.{IsReadable, head_in, plunges_in}
use Rattle.jobs.specs.Calls.{relief, tidied}
use Rattle.job_check.proofs.Alike.{alike-equal, common-self}
use Rattle.job_theorems.specs.Canonical.{Tidying, SamePlate, SameRelief}
use Rattle.job_theorems.proofs.Canonical.{canonical-form, tidiable, file-is}
use Rattle.comparison.specs.declared.Comparison.TheVariants.{Same, OtherKind, OtherSize, OtherCell}
use Rattle.comparison.specs.Comparing.{difference_at, compared}
use Rattle.comparison.proofs.Maps.{same_area}

kind-same : (k o : Kind) → kind_byte k ≡ kind_byte o → k ≡ o
kind-same Diamond Diamond e = refl
kind-same Diamond Square e = absurd (omega arith)
kind-same Square Diamond e = absurd (omega arith)
kind-same Square Square e = refl

common-most : (f g : List ℕ) → common f g ≤ length f
common-most f [] = omega arith
common-most [] (b ∷ g) = omega arith
common-most (a ∷ f) (b ∷ g) = go (common-most f g) (eqb a b)
  where
    go : common f g ≤ length f → (t : Bool) → cond t (suc (common f g)) 0 ≤ suc (length f)
    go h true = omega arith
    go h false = omega arith

head-same : (p o : Head) → SamePlate p o → p ≡ o
head-same p o s = λ i. record { kind = s.kinds i; width = s.widths i; height = s.heights i }

module _ (f g : List ℕ) where
  long : (h : List ℕ) → length (relief h) ≡ area (head_in h)
  long h = length-tabulated (head_in h) _

  -- ---- what 'same' says

  record Told : Type 0 where
    kinds : kind_byte (head_in f).kind ≡ kind_byte (head_in g).kind
    widths : (head_in f).width ≡ (head_in g).width
    heights : (head_in f).height ≡ (head_in g).height
    cells : area (head_in f) ≤ common (relief f) (relief g)

  told : compared f g ≡ Same → Told
  told =
      go (eqb (kind_byte (head_in f).kind) (kind_byte (head_in g).kind)) (eqb (head_in f).width (head_in g).width)
      (eqb (head_in f).height (head_in g).height) (ltb (common (relief f) (relief g)) (area (head_in f))) refl refl refl refl
    where
      go : (k w h l : Bool) → eqb (kind_byte (head_in f).kind) (kind_byte (head_in g).kind) ≡ k → eqb (head_in f).width (head_in g).width ≡ w
          → eqb (head_in f).height (head_in g).height ≡ h → ltb (common (relief f) (relief g)) (area (head_in f)) ≡ l
          → cond k (cond w (cond h (cond l (OtherCell (difference_at f g (common (relief f) (relief g)))) Same) OtherSize) OtherSize) OtherKind ≡ Same → Told
      go false w h l a b c d e = let z : ◌≡◌ {A = ℕ} 0 1 = cc in absurd (omega arith)
      go true false h l a b c d e = let z : ◌≡◌ {A = ℕ} 0 1 = cc in absurd (omega arith)
      go true true false l a b c d e = let z : ◌≡◌ {A = ℕ} 0 1 = cc in absurd (omega arith)
      go true true true true a b c d e = let z : ◌≡◌ {A = ℕ} 0 1 = cc in absurd (omega arith)
      go true true true false a b c d e =
          record { kinds = eqb-true _ _ a; widths = eqb-true _ _ b; heights = eqb-true _ _ c; cells = ltb-false _ _ d }

  told_same : Told → SamePlate (head_in f) (head_in g) × SameRelief f g
  told_same t = (plate, λ c o. ap₂ (λ (p : Head) (m : List ℕ). at p m c) (head-same (head_in f) (head_in g) plate) reliefs)
    where
      plate : SamePlate (head_in f) (head_in g)
      plate = record { kinds = kind-same _ _ t.kinds; widths = t.widths; heights = t.heights }

      lengths : length (relief f) ≡ length (relief g)
      lengths = long f ∙ same_area (head_in f) (head_in g) t.widths t.heights ∙ sym (long g)

      all : common (relief f) (relief g) ≡ length (relief f)
      all = le_antisymm (common-most (relief f) (relief g)) (omega (arith, t.cells, long f))

      reliefs : relief f ≡ relief g
      reliefs = alike-equal (relief f) (relief g) (rw (eq-eqb _ _ lengths) (eq-eqb _ _ all))

  -- ---- and back

  same-told : SamePlate (head_in f) (head_in g) → SameRelief f g → compared f g ≡ Same
  same-told s r =
      rw (
        eq-eqb (kind_byte (head_in f).kind) (kind_byte (head_in g).kind) (ap kind_byte s.kinds),
        eq-eqb (head_in f).width (head_in g).width s.widths,
        eq-eqb (head_in f).height (head_in g).height s.heights,
        le-ltb (common (relief f) (relief g)) (area (head_in f)) all,
      )
    where
      heads : head_in f ≡ head_in g
      heads = head-same (head_in f) (head_in g) s

      each : (c : Cell) → On (head_in f) c → drawn (head_in f).kind (plunges_in f) c ≡ drawn (head_in g).kind (plunges_in g) c
      each c o =
          sym (at-tabulated (head_in f) (drawn (head_in f).kind (plunges_in f)) c o)
          ∙ r c o
          ∙ at-tabulated (head_in g) (drawn (head_in g).kind (plunges_in g)) c (subst (λ (p : Head). On p c) heads o)

      reliefs : relief f ≡ relief g
      reliefs =
          tabulated-same (head_in f) (drawn (head_in f).kind (plunges_in f)) (drawn (head_in g).kind (plunges_in g)) each
          ∙ ap (λ (p : Head). tabulated p (drawn (head_in g).kind (plunges_in g))) heads

      all : area (head_in f) ≤ common (relief f) (relief g)
      all = omega (arith, ap (common (relief f)) (sym reliefs), common-self (relief f), long f)

-- 'same' exactly where tidying gives the same bytes
pub same-iff-tidied : (f g : List ℕ) → IsReadable f → IsReadable g → (compared f g ≡ Same) ↔ (tidied f ≡ tidied g)
same-iff-tidied f g okf okg = (
  (λ e. let t = told_same f g (told f g e) in sym (file-is f s) ∙ form.equal.1 t ∙ file-is g u),
  λ e. let t = form.equal.0 (file-is f s ∙ e ∙ sym (file-is g u)) in same-told f g t.0 t.1,
)
  where
    s : Tidying f
    s = (tidiable f okf).tidying

    u : Tidying g
    u = (tidiable g okg).tidying

    form : Rattle.job_theorems.specs.Canonical.CanonicalForm s u
    form = canonical-form s u
