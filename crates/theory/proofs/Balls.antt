-- The cells of a ball as a list; and when one ball lies in another.
use mathlib.Core.Path.{◌≡◌, sym, ap}
use mathlib.Core.Logic.{◌⊎◌, inl, inr, ◌↔◌}
use mathlib.Core.List.Memᴰ
use mathlib.Core.List.{[], ◌∷◌, Memᴰ}
use Prim.Native.Nat.{ℕ, zero, suc, ◌+◌, ◌-◌, ◌≤◌, ◌<◌}
use native.Mathlib.Omega.{arith}
use native.Mathlib.Decide.{dec_le}
use borrow.Author.Tests.{le-leb, leb-true, lt-ltb, le-ltb}
use lib.Dec.{leb}
use lib.IntN.{ℤ, pos, negsuc, ◌+ℤ◌, ◌-ℤ◌}
use Rattle.geometry.specs.declared.Kind.{Kind}
use Rattle.geometry.specs.declared.Kind.TheVariants.{Diamond, Square}
use Rattle.geometry.specs.Plane.{Cell, gap, dist, Ball, crossing, span, ball}
use Rattle.geometry.specs.Plunges.{BallWithin}
use Rattle.theory.proofs.Lists.{select_in, select-out, crossing-in}
use Rattle.theory.proofs.Distance.{gap-zero, dist-sym, dist-tri, beyond}

pub col-near : (kd : Kind) (c o : Cell) → gap c.col o.col ≤ dist kd c o
col-near Diamond c o = omega arith
col-near Square c o = omega arith

pub row_near : (kd : Kind) (c o : Cell) → gap c.row o.row ≤ dist kd c o
row_near Diamond c o = omega arith
row_near Square c o = omega arith

-- what is n + 1 away from a is n + 1 less or n + 1 more
at_gap : (a z : ℤ) (n : ℕ) → gap a z ≡ suc n → (z ≡ a -ℤ pos (suc n)) ⊎ (z ≡ a +ℤ pos (suc n))
at_gap (pos a) (pos b) n e = go (dec_le a b)
  where
    go : Dec (a ≤ b) → (pos b ≡ pos a -ℤ pos (suc n)) ⊎ (pos b ≡ pos a +ℤ pos (suc n))
    go (yes h) = inr (let g : b ≡ a + suc n = omega arith in ap pos g)
    go (no h) = inl (let l : suc n ≤ a = omega arith in let g : b ≡ a - suc n = omega arith in rw (le-ltb a (suc n) l) (ap pos g))
at_gap (pos a) (negsuc b) n e = inl (let l : a < suc n = omega arith in let g : b ≡ suc n - suc a = omega arith in rw (lt-ltb a (suc n) l) (ap negsuc g))
at_gap (negsuc a) (pos b) n e = inr (let l : suc a ≤ suc n = omega arith in let g : b ≡ suc n - suc a = omega arith in rw (le-ltb (suc n) (suc a) l) (ap pos g))
at_gap (negsuc a) (negsuc b) n e = go (dec_le a b)
  where
    go : Dec (a ≤ b) → (negsuc b ≡ negsuc a -ℤ pos (suc n)) ⊎ (negsuc b ≡ negsuc a +ℤ pos (suc n))
    go (yes h) = inl (let g : b ≡ suc (a + n) = omega arith in ap negsuc g)
    go (no h) = inr (let l : suc n < suc a = omega arith in let g : b ≡ suc a - suc (suc n) = omega arith in rw (lt-ltb (suc n) (suc a) l) (ap negsuc g))

span-in : (a z : ℤ) (r : ℕ) → gap a z ≤ r → Memᴰ z (span a r)
span-in a z zero h = Memᴰ.head (sym (gap-zero a z (omega arith)))
span-in a z (suc r) h = go (dec_le (gap a z) r) (span-in a z r)
  where
    ends : (z ≡ a -ℤ pos (suc r)) ⊎ (z ≡ a +ℤ pos (suc r)) → Memᴰ z (span a (suc r))
    ends (inl e) = Memᴰ.head e
    ends (inr e) = Memᴰ.tail (Memᴰ.append_right (span a r) (Memᴰ.head e))

    go : Dec (gap a z ≤ r) → (gap a z ≤ r → Memᴰ z (span a r)) → Memᴰ z (span a (suc r))
    go (yes g) ih = Memᴰ.tail (Memᴰ.append_left ((a +ℤ pos (suc r)) ∷ []) (ih g))
    go (no g) ih = ends (at_gap a z r (omega arith))

-- the list of a ball holds all cells at distance at most the reach, and no other
pub ball-in : (kd : Kind) (c : Cell) (r : ℕ) {o : Cell} → Ball kd c r o → Memᴰ o (ball kd c r)
unfolding ball
ball-in kd c r {o} h =
    select_in (λ o. leb (dist kd c o) r) (crossing (span c.col r) (span c.row r))
    (crossing-in (span c.col r) (span c.row r) (span-in c.col o.col r (omega (arith, col-near kd c o)))
    (span-in c.row o.row r (omega (arith, row_near kd c o))))
    (le-leb _ _ h)

pub ball-out : (kd : Kind) (c : Cell) (r : ℕ) {o : Cell} → Memᴰ o (ball kd c r) → Ball kd c r o
unfolding ball
ball-out kd c r m = leb-true _ _ (select-out (λ o. leb (dist kd c o) r) (crossing (span c.col r) (span c.row r)) m).1

-- a ball lies in another exactly when the distance of the centres plus its reach is at most the other reach
pub within-sum : (kd : Kind) (c : Cell) (r : ℕ) (d : Cell) (s : ℕ) → BallWithin kd c r d s → dist kd c d + r ≤ s
within-sum kd c r d s h = let o = beyond kd d c r in omega (arith, h o.0 o.1, o.2, dist-sym kd c d)

pub sum-within : (kd : Kind) (c : Cell) (r : ℕ) (d : Cell) (s : ℕ) → dist kd c d + r ≤ s → BallWithin kd c r d s
sum-within kd c r d s h o g = omega (arith, dist-tri kd d c o, dist-sym kd c d)

pub within-iff : (kd : Kind) (c : Cell) (r : ℕ) (d : Cell) (s : ℕ) → BallWithin kd c r d s ↔ (dist kd c d + r ≤ s)
within-iff kd c r d s = (within-sum kd c r d s, sum-within kd c r d s)
