-- Laws of refusals: which is given by the tests that led to it, what acceptance says, and the shortest buffer stands for all.
use Rattle.std.specs.Prelude.{Option, Some, None, Result, Ok, Err, IsErrAnd, is_none}
use Rattle.std.proofs.lemmas.Result.{err_from_is_err_and}
use mathlib.Core.Path.{◌≡◌, refl, sym, ap, ◌∙◌}
use mathlib.Core.Bool.{Bool, true, false, cond, not}
use mathlib.Core.List.{List, [], ◌∷◌}
use Prim.Native.Nat.{ℕ, ◌*◌, ◌≤◌, ◌<◌, min}
use native.Mathlib.Omega.{arith}
use native.Mathlib.Nat.{mul-le-mul}
use borrow.Author.Tests.{ltb-true, ltb-false, lt-ltb, le-ltb, leb-true, leb-false, le-leb, eq-eqb, ne_eqb, not-false}
use lib.Dec.{leb, ltb, eqb}
use Rattle.geometry.specs.declared.Kind.{Kind}
use Rattle.geometry.specs.Lists.{any}
use Rattle.geometry.specs.Forms.{kind_of}
use Rattle.refusal.specs.declared.Refusal.{Refusal}
use Rattle.refusal.specs.Refusals.{trial, first_met, is_side, largest_side, is_erosion_number, largest_erosion, is_level, largest_level, bad_kind, bad_sides, short, side_trials, map_trials, kind_named, head_of, written, Answered}
use Rattle.refusal.specs.Refusals.{Verdict}

-- what `?` hands on is the refusal that it met
pub passed-on : {T E : Type 0} (r : Result T E) (x : E) → IsErrAnd r (λ y. y ≡ x) → r ≡ Err x
passed-on r x h = let w = err_from_is_err_and r h in w.1 ∙ ap Err w.2

-- two sides of 16 bits have a product that a length can be compared with
pub area-fits : (w h : ℕ) → w < 65536 → h < 65536 → h * w < 4294967296
area-fits w h a b =
    let c : w ≤ 65535 = omega arith in
    let d : h ≤ 65535 = omega arith in
    omega (arith, mul-le-mul d c)

abbrev pub refused : ℕ → Verdict
refused n = Err (record { number = n; place = 0 })

-- the first met, by the tests that were made
module _ (w h : ℕ) (wrong : Bool) (n : ℕ) where
  pub gives-2 : bad_sides w h ≡ true → refused 2 ≡ first_met (side_trials w h wrong (n ∷ []))
  gives-2 e = rw e

  pub gives-3 : bad_sides w h ≡ false → wrong ≡ true → refused 3 ≡ first_met (side_trials w h wrong (n ∷ []))
  gives-3 e g = rw (e, g)

  pub gives-4 : bad_sides w h ≡ false → wrong ≡ false → n < h * w → refused 4 ≡ first_met (side_trials w h wrong (n ∷ []))
  gives-4 e g l = rw (e, g, lt-ltb _ _ l)

  pub gives_none : bad_sides w h ≡ false → wrong ≡ false → h * w ≤ n → (Ok tt) ≡ first_met (side_trials w h wrong (n ∷ []))
  gives_none e g l = rw (e, g, le-ltb _ _ l)

-- a verdict asks of the buffers only whether one is short
pub same-verdict : (k w h : ℕ) (wrong : Bool) (some others : List ℕ) → short w h some ≡ short w h others
    → first_met (map_trials k w h wrong some) ≡ first_met (map_trials k w h wrong others)
same-verdict k w h wrong some others e =
    ap (λ (b : Bool). cond (bad_kind k) (refused 1) (cond (bad_sides w h) (refused 2) (cond wrong (refused 3) (cond b (refused 4) (Ok tt))))) e

-- the shortest of two buffers stands for both
pub shortest-two : (a m n : ℕ) (more : List ℕ) → any (λ k. ltb k a) (m ∷ n ∷ more) ≡ any (λ k. ltb k a) (min m n ∷ more)
shortest-two a m n more = go (ltb m a) (ltb n a) refl refl
  where
    go : (x y : Bool) → ltb m a ≡ x → ltb n a ≡ y → cond x true (cond y true (any (λ k. ltb k a) more)) ≡ cond (ltb (min m n) a) true (any (λ k. ltb k a) more)
    go true y e g = let l : min m n < a = omega (arith, ltb-true m a e) in rw (lt-ltb _ _ l)
    go false true e g = let l : min m n < a = omega (arith, ltb-true n a g) in rw (lt-ltb _ _ l)
    go false false e g = let l : a ≤ min m n = omega (arith, ltb-false m a e, ltb-false n a g) in rw (le-ltb _ _ l)

-- a byte that names a kind; one that names none
module _ (k w h : ℕ) (wrong : Bool) (lengths : List ℕ) where
  pub kind-passes : (kd : Kind) → kind_of k ≡ Some kd → first_met (map_trials k w h wrong lengths) ≡ first_met (side_trials w h wrong lengths)
  kind-passes kd e = ap (λ (m : Option Kind). first_met (trial (is_none m) 1 0 ∷ side_trials w h wrong lengths)) e

  pub kind-refused : kind_of k ≡ None → first_met (map_trials k w h wrong lengths) ≡ refused 1
  kind-refused e = ap (λ (m : Option Kind). first_met (trial (is_none m) 1 0 ∷ side_trials w h wrong lengths)) e

pub head-named : (k w h : ℕ) (m : Option Kind) → kind_of k ≡ m → record { kind = kind_named m; width = w; height = h } ≡ head_of k w h
head-named k w h m e = ap (λ (n : Option Kind). record { kind = kind_named n; width = w; height = h }) (sym e)

-- what an accepted call knows of its arguments
pub record Sound (w h : ℕ) (wrong : Bool) (n : ℕ) : Type 0 where
  pub wide : 1 ≤ w
  pub narrow : w ≤ largest_side
  pub tall : 1 ≤ h
  pub low : h ≤ largest_side
  pub right : wrong ≡ false
  pub long : h * w ≤ n

refused-not : (n : ℕ) → refused n ≡ Ok tt → ⊥
refused-not n e = let z : ◌≡◌ {A = ℕ} 0 1 = cc in omega arith

-- a side, the number of an erosion and a level are each a number from 1 to the largest
pub one-to : (most n : ℕ) → cond (leb 1 n) (leb n most) false ≡ true → (1 ≤ n) × (n ≤ most)
one-to most n = go (leb 1 n) refl
  where
    go : (b : Bool) → leb 1 n ≡ b → cond b (leb n most) false ≡ true → (1 ≤ n) × (n ≤ most)
    go true e g = (leb-true _ _ e, leb-true _ _ g)
    go false e g = let z : ◌≡◌ {A = ℕ} 0 1 = cc in absurd (omega arith)

sides-ok : (w h : ℕ) → bad_sides w h ≡ false → (is_side w ≡ true) × (is_side h ≡ true)
sides-ok w h = go (is_side w) (is_side h) refl refl
  where
    go : (a b : Bool) → is_side w ≡ a → is_side h ≡ b → cond a (not b) true ≡ false → (is_side w ≡ true) × (is_side h ≡ true)
    go true true e g k = (e, g)
    go true false e g k = let z : ◌≡◌ {A = ℕ} 0 1 = cc in absurd (omega arith)
    go false b e g k = let z : ◌≡◌ {A = ℕ} 0 1 = cc in absurd (omega arith)

pub sound : (w h : ℕ) (wrong : Bool) (n : ℕ) → first_met (side_trials w h wrong (n ∷ [])) ≡ Ok tt → Sound w h wrong n
sound w h wrong n = go (bad_sides w h) wrong (ltb n (h * w)) refl refl refl
  where
    go : (a b c : Bool) → bad_sides w h ≡ a → wrong ≡ b → ltb n (h * w) ≡ c
        → cond a (refused 2) (cond b (refused 3) (cond (cond c true false) (refused 4) (Ok tt))) ≡ Ok tt → Sound w h wrong n
    go true b c e g k v = absurd (refused-not 2 v)
    go false true c e g k v = absurd (refused-not 3 v)
    go false false true e g k v = absurd (refused-not 4 v)
    go false false false e g k v =
        let s = sides-ok w h e in
        let x = one-to largest_side w s.0 in
        let y = one-to largest_side h s.1 in
        record { wide = x.0; narrow = x.1; tall = y.0; low = y.1; right = g; long = ltb-false _ _ k }

pub map-sound : (k w h : ℕ) (wrong : Bool) (n : ℕ) → first_met (map_trials k w h wrong (n ∷ [])) ≡ Ok tt → Sound w h wrong n
map-sound k w h wrong n = go (bad_kind k)
  where
    go : (a : Bool) → cond a (refused 1) (first_met (side_trials w h wrong (n ∷ []))) ≡ Ok tt → Sound w h wrong n
    go true v = absurd (refused-not 1 v)
    go false v = sound w h wrong n v

-- the number of an erosion that was not refused
pub erosion-number-ok : (n : ℕ) → not (is_erosion_number n) ≡ false → (1 ≤ n) × (n ≤ largest_erosion)
erosion-number-ok n e = one-to largest_erosion n (not-false _ e)

-- a level is a byte above 0; a byte is no level only if it is 0
pub level-ok : (t : ℕ) → not (is_level t) ≡ false → (1 ≤ t) × (t ≤ 255)
level-ok t e = let l = one-to largest_level t (not-false _ e) in (l.0, omega (arith, l.1))

pub byte-level : (t : ℕ) → t ≤ 255 → eqb t 0 ≡ not (is_level t)
byte-level t g = go (leb 1 t) refl
  where
    go : (b : Bool) → leb 1 t ≡ b → eqb t 0 ≡ not (cond b (leb t largest_level) false)
    go true e =
        let n : t ≡ 0 → ⊥ = λ z. omega (arith, leb-true 1 t e) in
        let l : t ≤ largest_level = omega arith in
        rw (ne_eqb _ _ n, le-leb _ _ l)
    go false e = let z : t ≡ 0 = omega (arith, leb-false 1 t e) in rw (eq-eqb _ _ z)

-- a refused call answers its refusal and leaves its output
pub answered-refused : (v : Verdict) (q : Refusal) (new out : List ℕ) → v ≡ Err q → Answered v new out out (Err q)
answered-refused v q new out e = record { answer = sym e; bytes = sym (ap (λ (u : Verdict). written u new out) e) }
