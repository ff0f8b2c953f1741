-- Texts put one after another at places of a page.
use mathlib.Core.Path.{◌≡◌, refl, sym, ap, ◌∙◌}
use mathlib.Core.List.{List, [], ◌∷◌, ◌++◌}
use Prim.Native.Nat.{ℕ, ◌+◌, ◌≤◌}
use native.Mathlib.Omega.{arith}
use lib.ListN.{length, set, length-append}
use lib.Seq.{sets-eq, length-take-le}
use Rattle.io.specs.Counts.{IsPrefixLen}
use Rattle.fields.specs.Writing.{spliced}
use Rattle.fields.proofs.Splice.{splice-splice, splice-length}
use Rattle.numerals.specs.Numerals.{Puts}

pub counts : (n : ℕ) (l : List ℕ) → n ≤ length l → IsPrefixLen n l
counts n l h = (h, sym (length-take-le n l h))

-- ---- one text after another

pub puts-length : (old : List ℕ) (at : ℕ) (xs new : List ℕ) (r : ℕ) → Puts old at xs new r → at + length xs ≤ length old → length new ≡ length old
puts-length old at xs new r p h = ap length p.0 ∙ splice-length old at xs h

-- the place behind a text counts bytes of the buffer
pub puts-counts : (old : List ℕ) (at : ℕ) (xs new : List ℕ) (r : ℕ) → Puts old at xs new r → at + length xs ≤ length old → IsPrefixLen r new
puts-counts old at xs new r p h = counts r new (omega (arith, p.1, puts-length old at xs new r p h))

-- two texts, the second where the first ended, are one
pub puts-puts : (old : List ℕ) (at : ℕ) (xs : List ℕ) (mid : List ℕ) (r : ℕ) (ys : List ℕ) (new : List ℕ) (s : ℕ)
    → Puts old at xs mid r → Puts mid r ys new s → at + length xs ≤ length old → Puts old at (xs ++ ys) new s
puts-puts old at xs mid r ys new s p q h = (
  q.0 ∙ ap (λ l. spliced l r ys) p.0 ∙ ap (λ n. spliced (spliced old at xs) n ys) p.1 ∙ splice-splice old at xs ys h,
  omega (arith, p.1, q.1, length-append xs ys),
)

-- one byte behind a text
pub puts-byte : (old : List ℕ) (at : ℕ) (xs mid : List ℕ) (r b : ℕ) → Puts old at xs mid r → at + length (xs ++ b ∷ []) ≤ length old
    → Puts old at (xs ++ b ∷ []) (set mid r b) (r + 1)
puts-byte old at xs mid r b p h =
    let l = length-append xs (b ∷ []) in
    let m : length mid ≡ length old = puts-length old at xs mid r p (omega (arith, l)) in
    puts-puts old at xs mid r (b ∷ []) (set mid r b) (r + 1) p (sets-eq (b ∷ []) mid r (omega (arith, l, m, p.1)), refl) (omega (arith, l))

-- ---- texts in a row, where all of them have room

module _ (old : List ℕ) (at : ℕ) (x y : List ℕ) (h : at + length (x ++ y) ≤ length old) where
  pub first-room : at + length x ≤ length old
  first-room = omega (arith, length-append x y)

  pub next-room : (mid : List ℕ) (r : ℕ) → Puts old at x mid r → r + length y ≤ length mid
  next-room mid r p = omega (arith, length-append x y, p.1, puts-length old at x mid r p first-room)

  pub two-texts : (mid new : List ℕ) (r s : ℕ) → Puts old at x mid r → Puts mid r y new s → Puts old at (x ++ y) new s
  two-texts mid new r s p q = puts-puts old at x mid r y new s p q first-room

module _ (old : List ℕ) (at : ℕ) (x y z : List ℕ) (h : at + length (x ++ y ++ z) ≤ length old) where
  two-room : at + length (x ++ y) ≤ length old
  two-room = first-room old at (x ++ y) z h

  pub room-1 : at + length x ≤ length old
  room-1 = first-room old at x y two-room

  module _ (l1 : List ℕ) (r1 : ℕ) (p : Puts old at x l1 r1) where
    pub room-2 : r1 + length y ≤ length l1
    room-2 = next-room old at x y two-room l1 r1 p

    module _ (l2 : List ℕ) (r2 : ℕ) (q : Puts l1 r1 y l2 r2) where
      both : Puts old at (x ++ y) l2 r2
      both = two-texts old at x y two-room l1 l2 r1 r2 p q

      pub room-3 : r2 + length z ≤ length l2
      room-3 = next-room old at (x ++ y) z h l2 r2 both

      pub three-texts : (l3 : List ℕ) (r3 : ℕ) → Puts l2 r2 z l3 r3 → Puts old at (x ++ y ++ z) l3 r3
      three-texts l3 r3 s = two-texts old at (x ++ y) z h l2 l3 r2 r3 both s
