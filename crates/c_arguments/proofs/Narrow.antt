-- Laws of narrowed arguments: a call with narrowed arguments keeps the promise of the call with the arguments as they were given. Either all of
-- them fit, and the two calls are one, or both get the same refusal, after which no promise speaks of the arguments.
use mathlib.Core.Path.{◌≡◌, refl, sym, ap, ◌∙◌, subst}
use mathlib.Core.Logic.{◌⊎◌, inl, inr}
use mathlib.Core.Bool.{Bool, true, false, cond, not}
use Prim.Native.Nat.{ℕ, ◌*◌, ◌≤◌, ◌<◌}
use native.Mathlib.Omega.{arith}
use borrow.Author.Tests.{leb-false, le-leb, lt-leb, ne_eqb, not-true}
use lib.Dec.{leb}
use Rattle.refusal.specs.Refusals.{is_side, largest_side, is_erosion_number, largest_erosion, is_level, largest_level, bad_kind, bad_sides, free}
use Rattle.refusal.proofs.Refusals.{refused, gives_none, sound}
use Rattle.clearance_cell.specs.Calls.{wrong_cell}
use Rattle.clearance_cell.proofs.Answers.{Right, right-cell}
use Rattle.c_arguments.specs.declared.Plate.{Plate}
use Rattle.c_arguments.specs.Narrow.{narrow, no_byte, narrow_byte, no_word, narrow_word, narrow_plate}
use Rattle.refusal.specs.Refusals.{Verdict}

-- ---- one argument

-- an argument is kept, or it is wrong before and after
abbrev Kept : {A : Type 0} → (A → A) → (A → Bool) → A → Type 0
Kept f wrong a = (f a ≡ a) ⊎ ((wrong a ≡ true) × (wrong (f a) ≡ true))

-- a number narrowed: it is kept, or it is too large and another stands for it
abbrev Cases : ℕ → ℕ → ℕ → Type 0
Cases most other n = (narrow most other n ≡ n) ⊎ ((most < n) × (narrow most other n ≡ other))

narrow-cases : (most other n : ℕ) → Cases most other n
narrow-cases most other n = go (leb n most) refl
  where
    go : (b : Bool) → leb n most ≡ b → Cases most other n
    go true e = inl (rw e)
    go false e = inr (leb-false _ _ e, rw e)

-- where all numbers above most are wrong, and so is the other
kept-up-to : (most other : ℕ) (wrong : ℕ → Bool) → wrong other ≡ true → ((n : ℕ) → most < n → wrong n ≡ true)
    → (n : ℕ) → Kept (narrow most other) wrong n
kept-up-to most other wrong e above n = go (narrow-cases most other n)
  where
    go : Cases most other n → Kept (narrow most other) wrong n
    go (inl k) = inl k
    go (inr k) = inr (above n k.0, ap wrong k.1 ∙ e)

above-largest : (largest n : ℕ) → largest < n → not (cond (leb 1 n) (leb n largest) false) ≡ true
above-largest largest n l = let one : 1 ≤ n = omega arith in rw (le-leb _ _ one, lt-leb _ _ l)

kind-kept : (k : ℕ) → Kept narrow_byte bad_kind k
kind-kept = kept-up-to 255 no_byte bad_kind refl above
  where
    above : (n : ℕ) → 255 < n → bad_kind n ≡ true
    above n l =
        let four : n ≡ 4 → ⊥ = λ e. omega arith in
        let eight : n ≡ 8 → ⊥ = λ e. omega arith in
        rw (ne_eqb _ _ four, ne_eqb _ _ eight)

side-kept : (n : ℕ) → Kept narrow_word (λ n. not (is_side n)) n
side-kept = kept-up-to 65535 no_word (λ n. not (is_side n)) refl (λ n l. above-largest largest_side n (omega arith))

pub level-kept : (t : ℕ) → Kept narrow_byte (λ t. not (is_level t)) t
level-kept = kept-up-to 255 no_byte (λ t. not (is_level t)) refl (above-largest largest_level)

pub number-kept : (n : ℕ) → Kept narrow_word (λ n. not (is_erosion_number n)) n
number-kept = kept-up-to 65535 no_word (λ n. not (is_erosion_number n)) refl (λ n l. above-largest largest_erosion n (omega arith))

-- a level, a column and a row
pub record Place : Type 0 where
  pub level : ℕ
  pub column : ℕ
  pub row : ℕ

abbrev pub narrow_place : Place → Place
narrow_place c = record { level = narrow_byte c.level; column = narrow_word c.column; row = narrow_word c.row }

abbrev pub wrong_place : ℕ → ℕ → Place → Bool
wrong_place w h c = wrong_cell c.level c.column c.row w h

pub place_kept : (w h : ℕ) → w ≤ largest_side → h ≤ largest_side → (c : Place) → Kept narrow_place (wrong_place w h) c
place_kept w h wide low c =
    go (narrow-cases 255 no_byte c.level) (narrow-cases 65535 no_word c.column) (narrow-cases 65535 no_word c.row)
  where
    wrong : (d : Place) → (Right d.level d.column d.row w h → ⊥) → wrong_place w h d ≡ true
    wrong d never = at (wrong_place w h d) refl
      where
        at : (b : Bool) → wrong_place w h d ≡ b → b ≡ true
        at true e = refl
        at false e = absurd (never (right-cell d.level d.column d.row w h e))

    both : (Right c.level c.column c.row w h → ⊥)
        → (Right (narrow_byte c.level) (narrow_word c.column) (narrow_word c.row) w h → ⊥) → Kept narrow_place (wrong_place w h) c
    both before after = inr (wrong c before, wrong (narrow_place c) after)

    go : Cases 255 no_byte c.level → Cases 65535 no_word c.column → Cases 65535 no_word c.row → Kept narrow_place (wrong_place w h) c
    go (inl t) (inl x) (inl y) = inl (rw (t, x, y))
    go (inr t) x y = both (λ r. omega (arith, t.0, r.byte)) (λ r. omega (arith, t.1, r.level))
    go (inl t) (inr x) y = both (λ r. omega (arith, x.0, r.left, wide)) (λ r. omega (arith, x.1, r.left, wide))
    go (inl t) (inl x) (inr y) = both (λ r. omega (arith, y.0, r.upper, low)) (λ r. omega (arith, y.1, r.upper, low))

-- ---- a call: its verdict, and what it promises by the verdict and a value

side-alike : (n : ℕ) → is_side (narrow_word n) ≡ is_side n
side-alike n = go (side-kept n)
  where
    go : Kept narrow_word (λ n. not (is_side n)) n → is_side (narrow_word n) ≡ is_side n
    go (inl e) = ap is_side e
    go (inr e) = not-true _ e.1 ∙ sym (not-true _ e.0)

sides-alike : (w h : ℕ) → bad_sides (narrow_word w) (narrow_word h) ≡ bad_sides w h
sides-alike w h =
    ap (λ (b : Bool). cond b (not (is_side (narrow_word h))) true) (side-alike w) ∙ ap (λ (b : Bool). cond (is_side w) (not b) true) (side-alike h)

kind-alike : (k : ℕ) → bad_kind (narrow_byte k) ≡ bad_kind k
kind-alike k = go (kind-kept k)
  where
    go : Kept narrow_byte bad_kind k → bad_kind (narrow_byte k) ≡ bad_kind k
    go (inl e) = ap bad_kind e
    go (inr e) = e.1 ∙ sym e.0

kind-same : (k : ℕ) → bad_kind k ≡ false → narrow_byte k ≡ k
kind-same k g = go (kind-kept k)
  where
    go : Kept narrow_byte bad_kind k → narrow_byte k ≡ k
    go (inl e) = e
    go (inr e) = let z : ◌≡◌ {A = ℕ} 0 1 = cc in absurd (omega arith)

-- the sides of a plate that is not refused
sides-low : (w h : ℕ) → bad_sides w h ≡ false → (w ≤ largest_side) × (h ≤ largest_side)
sides-low w h e =
    let s = sound w h false (h * w) (sym (gives_none w h false (h * w) e refl (omega arith))) in
    (s.narrow, s.low)

side_same : (n : ℕ) → n ≤ largest_side → narrow_word n ≡ n
side_same n l = let m : n ≤ 65535 = omega arith in rw (le-leb _ _ m)

-- A is what refusal 3 is about, X what is given where nothing is refused; after a refusal the promise does not speak of it
module _ {A X : Type 0} (f : A → A) (wrong : ℕ → ℕ → A → Bool) (rest : ℕ → ℕ → ℕ → A → Verdict) (value : ℕ → ℕ → ℕ → A → X)
    (Q : Verdict → X → Type 0) (silent : (n : ℕ) → free (refused n) ≡ false → (x y : X) → Q (refused n) x → Q (refused n) y) where
  abbrev verdict : ℕ → ℕ → ℕ → A → Verdict
  verdict k w h a = cond (bad_kind k) (refused 1) (cond (bad_sides w h) (refused 2) (cond (wrong w h a) (refused 3) (rest k w h a)))

  abbrev Promise : ℕ → ℕ → ℕ → A → Type 0
  Promise k w h a = Q (verdict k w h a) (value k w h a)

  both-refused : (n : ℕ) → free (refused n) ≡ false → (v u : Verdict) (x y : X) → v ≡ refused n → u ≡ refused n → Q v x → Q u y
  both-refused n e v u x y g k q = subst (λ (u : Verdict). Q u y) (sym k) (silent n e x y (subst (λ (v : Verdict). Q v x) g q))

  module _ (k w h : ℕ) (a : A) (kept : w ≤ largest_side → h ≤ largest_side → Kept f (wrong w h) a) where
    by-third : bad_kind k ≡ false → bad_sides w h ≡ false → Kept f (wrong w h) a → Promise k w h (f a) → Promise k w h a
    by-third e g (inl i) q = subst (Promise k w h) i q
    by-third e g (inr i) q =
        both-refused 3 refl (verdict k w h (f a)) (verdict k w h a) (value k w h (f a)) (value k w h a) (rw (e, g, i.1)) (rw (e, g, i.0)) q

    by-sides : bad_kind k ≡ false → (b : Bool) → bad_sides w h ≡ b → Promise k (narrow_word w) (narrow_word h) (f a) → Promise k w h a
    by-sides e true g q =
        let i = sides-alike w h ∙ g in
        both-refused 2 refl (verdict k (narrow_word w) (narrow_word h) (f a)) (verdict k w h a)
        (value k (narrow_word w) (narrow_word h) (f a)) (value k w h a) (rw (e, i)) (rw (e, g)) q
    by-sides e false g q =
        let s = sides-low w h g in
        by-third e g (kept s.0 s.1)
        (subst (λ (h : ℕ). Promise k w h (f a)) (side_same h s.1)
        (subst (λ (w : ℕ). Promise k w (narrow_word h) (f a)) (side_same w s.0) q))

    by_kind : (b : Bool) → bad_kind k ≡ b → Promise (narrow_byte k) (narrow_word w) (narrow_word h) (f a) → Promise k w h a
    by_kind true e q =
        let i = kind-alike k ∙ e in
        both-refused 1 refl (verdict (narrow_byte k) (narrow_word w) (narrow_word h) (f a)) (verdict k w h a)
        (value (narrow_byte k) (narrow_word w) (narrow_word h) (f a)) (value k w h a) (rw i) (rw e) q
    by_kind false e q =
        by-sides e (bad_sides w h) refl (subst (λ (k : ℕ). Promise k (narrow_word w) (narrow_word h) (f a)) (kind-same k e) q)

    -- what the call promises of narrowed arguments it promises of those that it was given
    pub narrowed : (p : Plate) → p ≡ narrow_plate k w h → (b : A) → b ≡ f a → Promise p.kind p.width p.height b → Promise k w h a
    narrowed p e b g q =
        by_kind (bad_kind k) refl
        (subst (λ (p : Plate). Promise p.kind p.width p.height (f a)) e (subst (Promise p.kind p.width p.height) g q))
