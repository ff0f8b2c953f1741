-- Maps that hold what files draw, and their comparison.
use Rattle.std.specs.Prelude.{Ok, Err}
use mathlib.Core.Path.{◌≡◌, refl, sym, ap, ap₂, ◌∙◌, subst}
use mathlib.Core.Bool.{Bool, true, false, cond}
use mathlib.Core.List.{List, ◌++◌}
use Prim.Native.Nat.{ℕ, ◌*◌, ◌/◌, ◌%◌, ◌≤◌, ◌<◌}
use native.Mathlib.Omega.{arith}
use borrow.Author.Tests.{eq-eqb, ne_eqb, eqb-true, lt-ltb, le-ltb, ltb-true}
use lib.Dec.{eqb, ltb}
use lib.ListN.{length, take, drop, get_or, length-append}
use lib.Seq.{take_at, get_or-take}
use Rattle.geometry.specs.declared.Head.{Head}
use Rattle.geometry.specs.Forms.{kind_byte}
use Rattle.geometry.specs.Lists.{common}
use Rattle.geometry.specs.Plate.{area}
use Rattle.theory.proofs.Plate.{length-tabulated}
use Rattle.refusal.specs.declared.Refusal.{Refusal}
use Rattle.refusal.specs.Refusals.{written}
use Rattle.reading.specs.Reading.{head_trials, head_in}
use Rattle.reading.proofs.Answers.{file-read}
use Rattle.refusal.specs.Refusals.{first_met}
use Rattle.reading.proofs.Readable.{readable-head}
use Rattle.jobs.specs.Calls.{relief, draw_verdict, Drawn}
use Rattle.comparison.specs.declared.Comparison.{Comparison}
use Rattle.comparison.specs.declared.Comparison.TheVariants.{Same, OtherKind, OtherSize, OtherCell, FirstRefused, SecondRefused}
use Rattle.comparison.specs.Comparing.{difference_at, reliefs_compared, compared, comparison_of, second_written, CompareCall}
use Rattle.comparison.specs.Drawings.{alike_in, maps_compared, plates_compared, Holds, SecondCompared}
use Rattle.refusal.specs.Refusals.{Verdict}

-- ---- two maps of one plate

module _ (p : Head) (a b : List ℕ) where
  abbrev found : ℕ → Comparison
  found n = OtherCell (record { column = n % p.width; row = n / p.width; first = get_or a n 0; second = get_or b n 0 })

  pub maps-differ : (n : ℕ) → n ≡ alike_in p a b → n < area p → found n ≡ maps_compared p a b
  maps-differ n e h =
      ap found e ∙ sym (ap (λ (t : Bool). cond t (found (alike_in p a b)) Same) (lt-ltb (alike_in p a b) (area p) (subst (λ (m : ℕ). m < area p) e h)))

  pub maps-agree : (n : ℕ) → n ≡ alike_in p a b → area p ≤ n → Same ≡ maps_compared p a b
  maps-agree n e h =
      sym (ap (λ (t : Bool). cond t (found (alike_in p a b)) Same) (le-ltb (alike_in p a b) (area p) (subst (λ (m : ℕ). area p ≤ m) e h)))

-- ---- two plates

module _ (p o : Head) (a b : List ℕ) where
  pub kinds-differ : (x y : ℕ) → x ≡ kind_byte p.kind → y ≡ kind_byte o.kind → (x ≡ y → ⊥) → OtherKind ≡ plates_compared p o a b
  kinds-differ x y e g h = rw (ne_eqb (kind_byte p.kind) (kind_byte o.kind) (λ z. h (e ∙ z ∙ sym g)))

  module _ (x y : ℕ) (e : x ≡ kind_byte p.kind) (g : y ≡ kind_byte o.kind) (same : x ≡ y) where
    kinds : eqb (kind_byte p.kind) (kind_byte o.kind) ≡ true
    kinds = eq-eqb _ _ (sym e ∙ same ∙ g)

    pub widths-differ : (p.width ≡ o.width → ⊥) → OtherSize ≡ plates_compared p o a b
    widths-differ h = rw (kinds, ne_eqb p.width o.width h)

    pub heights-differ : p.width ≡ o.width → (p.height ≡ o.height → ⊥) → OtherSize ≡ plates_compared p o a b
    heights-differ w h = rw (kinds, eq-eqb p.width o.width w, ne_eqb p.height o.height h)

    pub sizes-agree : p.width ≡ o.width → p.height ≡ o.height → maps_compared p a b ≡ plates_compared p o a b
    sizes-agree w h = rw (kinds, eq-eqb p.width o.width w, eq-eqb p.height o.height h)

pub same_area : (p o : Head) → p.width ≡ o.width → p.height ≡ o.height → area p ≡ area o
same_area p o w h = ap₂ (λ (x y : ℕ). y * x) w h

-- ---- maps that hold the reliefs of two files

pub drawn-holds : (f a a' : List ℕ) → Drawn f a a' (Ok tt) → Holds f a'
drawn-holds f a a' d =
    record {
      readable = file-read f _ (sym d.answer);
      room = omega (arith, long, ap length wrote, length-append (relief f) (drop (length (relief f)) a));
      cells = ap (take (area (head_in f))) wrote ∙ take_at (relief f) (drop (length (relief f)) a) (area (head_in f)) long;
    }
  where
    long : length (relief f) ≡ area (head_in f)
    long = length-tabulated (head_in f) _

    wrote : a' ≡ relief f ++ drop (length (relief f)) a
    wrote = d.bytes ∙ ap (λ (v : Verdict). written v (relief f) a) (sym d.answer)

module _ (f g a b : List ℕ) (x : Holds f a) (y : Holds g b) where
  maps-same : (head_in f).width ≡ (head_in g).width → (head_in f).height ≡ (head_in g).height → maps_compared (head_in f) a b ≡ reliefs_compared f g
  maps-same w h = ap (λ (n : ℕ). cond (ltb n (area (head_in f))) (found (head_in f) a b n) Same) alike ∙ go (ltb (common (relief f) (relief g)) (area (head_in f))) refl
    where
      cells : take (area (head_in f)) b ≡ relief g
      cells = ap (λ (n : ℕ). take n b) (same_area (head_in f) (head_in g) w h) ∙ y.cells

      alike : alike_in (head_in f) a b ≡ common (relief f) (relief g)
      alike = ap₂ common x.cells cells

      go : (t : Bool) → ltb (common (relief f) (relief g)) (area (head_in f)) ≡ t
          → cond t (found (head_in f) a b (common (relief f) (relief g))) Same ≡ cond t (OtherCell (difference_at f g (common (relief f) (relief g)))) Same
      go false e = refl
      go true e =
          ap₂ (λ (u v : ℕ). OtherCell (record {
            column = common (relief f) (relief g) % (head_in f).width;
            row = common (relief f) (relief g) / (head_in f).width;
            first = u;
            second = v;
          }))
          (sym (get_or-take (area (head_in f)) a (common (relief f) (relief g)) 0 below) ∙ ap (λ (l : List ℕ). get_or l (common (relief f) (relief g)) 0) x.cells)
          (sym (get_or-take (area (head_in f)) b (common (relief f) (relief g)) 0 below) ∙ ap (λ (l : List ℕ). get_or l (common (relief f) (relief g)) 0) cells)
        where
          below : common (relief f) (relief g) < area (head_in f)
          below = ltb-true _ _ e

  pub plates-same : plates_compared (head_in f) (head_in g) a b ≡ compared f g
  plates-same = go (eqb (kind_byte (head_in f).kind) (kind_byte (head_in g).kind)) (eqb (head_in f).width (head_in g).width) (eqb (head_in f).height (head_in g).height)
      refl refl
    where
      go : (k w h : Bool) → eqb (head_in f).width (head_in g).width ≡ w → eqb (head_in f).height (head_in g).height ≡ h
          → cond k (cond w (cond h (maps_compared (head_in f) a b) OtherSize) OtherSize) OtherKind
          ≡ cond k (cond w (cond h (reliefs_compared f g) OtherSize) OtherSize) OtherKind
      go false w h e r = refl
      go true false h e r = refl
      go true true false e r = refl
      go true true true e r = maps-same (eqb-true _ _ e) (eqb-true _ _ r)

pub holds-head : (f m : List ℕ) → Holds f m → first_met (head_trials f) ≡ Ok tt
holds-head f m h = readable-head f h.readable

-- ---- the call

module _ (f g b b' : List ℕ) where
  pub second-refused : (r : Refusal) → Drawn g b b' (Err r) → SecondCompared f g b b' (SecondRefused r)
  second-refused r d = record { answer = ap (λ (v : Verdict). comparison_of (Ok tt) v f g) d.answer; bytes = d.bytes }

  pub second-done : (r : Comparison) → Drawn g b b' (Ok tt) → r ≡ compared f g → SecondCompared f g b b' r
  second-done r d e = record { answer = e ∙ ap (λ (v : Verdict). comparison_of (Ok tt) v f g) d.answer; bytes = d.bytes }

module _ (f g a a' b : List ℕ) where
  pub first-refused : (r : Refusal) → Drawn f a a' (Err r) → CompareCall f g a a' b b (FirstRefused r)
  first-refused r d =
      record {
        answer = ap (λ (v : Verdict). comparison_of v (draw_verdict g b) f g) d.answer;
        first = d.bytes;
        second = ap (λ (v : Verdict). second_written v (draw_verdict g b) (relief g) b) d.answer;
      }

  pub first_done : (b' : List ℕ) (r : Comparison) → Drawn f a a' (Ok tt) → SecondCompared f g b b' r → CompareCall f g a a' b b' r
  first_done b' r d s =
      record {
        answer = s.answer ∙ ap (λ (v : Verdict). comparison_of v (draw_verdict g b) f g) d.answer;
        first = d.bytes;
        second = s.bytes ∙ ap (λ (v : Verdict). second_written v (draw_verdict g b) (relief g) b) d.answer;
      }
