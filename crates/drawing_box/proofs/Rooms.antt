-- Laws of the plunges of a file that can be drawn: the room of a ball on its plate, and that a field that was read is the file's.
use Rattle.std.specs.Prelude.{Option, Some, None}
use mathlib.Core.Path.{◌≡◌, refl, sym, ap, ◌∙◌}
use mathlib.Core.Bool.{Bool, true, false, cond}
use mathlib.Core.List.{List}
use Prim.Native.Nat.{ℕ, ◌+◌, ◌≤◌, ◌<◌}
use native.Mathlib.Omega.{arith}
use borrow.Author.Tests.{leb-true, ltb-true}
use lib.Dec.{leb, ltb}
use Rattle.geometry.specs.declared.Head.{Head}
use Rattle.geometry.specs.declared.Plunge.{Plunge}
use Rattle.geometry.specs.declared.Size.{Size}
use Rattle.geometry.specs.Forms.{largest_reach}
use Rattle.geometry.specs.Plunges.{fits_plate}
use Rattle.geometry.specs.Sizes.{size_of}
use Rattle.refusal.specs.Sides.{Sides}
use Rattle.fields.specs.Fields.{place}
use Rattle.reading.specs.Reading.{head_in, nth_plunge}
use Rattle.reading.specs.Steps.{plunge_if}
use Rattle.reading.proofs.Answers.{is-plunge, nth-field}
use Rattle.drawing_box.specs.Boxed.{Drawable}

-- both of two tests
pub both : (a b : Bool) → cond a b false ≡ true → (a ≡ true) × (b ≡ true)
both true b e = (refl, e)
both false b e = let z : ◌≡◌ {A = ℕ} 0 1 = cc in absurd (omega arith)

-- the room that a ball has on each side
pub record Room (p : Head) (q : Plunge) : Type 0 where
  pub west : q.reach.0 ≤ q.column
  pub north : q.reach.0 ≤ q.row
  pub east : q.column + q.reach.0 < p.width
  pub south : q.row + q.reach.0 < p.height

pub room : (p : Head) (q : Plunge) → fits_plate p q ≡ true → Room p q
room p q e =
    let a = both (leb q.reach.0 q.column) _ e in
    let b = both (leb q.reach.0 q.row) _ a.1 in
    let c = both (ltb (q.column + q.reach.0) p.width) _ b.1 in
    record { west = leb-true _ _ a.0; north = leb-true _ _ b.0; east = ltb-true _ _ c.0; south = ltb-true _ _ c.1 }

-- a plunge of a file has it
pub nth-room : (p : Head) (n : ℕ) (f : List ℕ) → Drawable p n f → (i : ℕ) → i < n → Room p (nth_plunge f i)
nth-room p n f d i l = room p (nth_plunge f i) (d.fits i l)

module _ (p : Head) (n : ℕ) (f : List ℕ) (sides : Sides p) (d : Drawable p n f) (i : ℕ) (l : i < n) where
  pub reach-small : (nth_plunge f i).reach.0 ≤ largest_reach
  reach-small = let r = nth-room p n f d i l in omega (arith, r.west, r.east, sides.narrow)

  -- so is a number that is told to be it
  pub told-reach : (r : ℕ) → r ≡ (nth_plunge f i).reach.0 → r ≤ largest_reach
  told-reach r e = omega (arith, reach-small)

  -- the field that was read is the file's
  module _ (m : Option Plunge) (s : Size) (at : ℕ) (e : m ≡ plunge_if s f at) (z : s ≡ size_of p) (a : at ≡ place p i) where
    whole : m ≡ Some (nth_plunge f i)
    whole = e ∙ nth-field f i p s at d.head z a ∙ is-plunge (size_of (head_in f)) f (place (head_in f) i) reach-small

    -- its plunge is the file's
    pub told : (q : Plunge) → m ≡ Some q → q ≡ nth_plunge f i
    told q g = ap (λ (m : Option Plunge). or_else m q) (sym g ∙ whole)
      where
        or_else : Option Plunge → Plunge → Plunge
        or_else (Some o) q = o
        or_else None q = q
