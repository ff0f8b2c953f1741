-- The listing rises by reach, then row, then column; so no plunge stands in it twice.
use mathlib.Core.Path.{◌≡◌, refl, ap}
use mathlib.Core.Logic.{◌⊎◌, inl, inr}
use mathlib.Core.Bool.{Bool, true, false, cond}
use mathlib.Core.List.Memᴰ
use mathlib.Core.List.{List, [], ◌∷◌, ◌++◌, Memᴰ}
use Prim.Native.Nat.{ℕ, zero, suc, ◌<◌}
use native.Mathlib.Omega.{arith}
use lib.Dec.{ltb}
use Rattle.geometry.specs.declared.Head.{Head}
use Rattle.geometry.specs.declared.Plunge.{Plunge}
use Rattle.geometry.specs.Lists.{gather}
use Rattle.geometry.specs.Plane.{cell}
use Rattle.theory.specs.Erosion.{erosion, residue}
use Rattle.theory.specs.Listing.{listed_at, listing, Before, Rising}
use Rattle.theory.proofs.Lists.{gather-out}

join : (a b : List Plunge) → Rising a → Rising b → ((q o : Plunge) → Memᴰ q a → Memᴰ o b → Before q o) → Rising (a ++ b)
join [] b r s h = s
join (x ∷ xs) b r s h = (λ o m. after o (Memᴰ.append_cases xs m), join xs b r.1 s (λ q o m n. h q o (Memᴰ.tail m) n))
  where
    after : (o : Plunge) → Memᴰ o xs ⊎ Memᴰ o b → Before x o
    after o (inl m) = r.0 o m
    after o (inr m) = h x o (Memᴰ.head refl) m

gather-rising : (n i : ℕ) (f : ℕ → List Plunge) → ((j : ℕ) → Rising (f j))
    → ((j k : ℕ) → j < k → (q o : Plunge) → Memᴰ q (f j) → Memᴰ o (f k) → Before q o) → Rising (gather n i f)
gather-rising zero i f r h = tt
gather-rising (suc n) i f r h =
    join (f i) (gather n (suc i) f) (r i) (gather-rising n (suc i) f r h)
    (λ q o m k. let t = gather-out n (suc i) f k in h i t.0 (omega (arith, t.1)) q o m t.3)

module _ (p : Head) (m : List ℕ) (r : ℕ) where
  cell-rising : (x y : ℕ) → Rising (listed_at p m r x y)
  cell-rising x y = go (ltb 0 (residue p m (suc r) (cell x y))) _
    where
      go : (b : Bool) (q : Plunge) → Rising (cond b (q ∷ []) [])
      go true q = ((λ o n. absurd (Memᴰ.not-nil n)), tt)
      go false q = tt

  -- where a plunge of one cell stands
  place : (x y : ℕ) (q : Plunge) → Memᴰ q (listed_at p m r x y) → (q.column ≡ x) × (q.row ≡ y) × (q.reach.0 ≡ r)
  place x y q n = go (ltb 0 (residue p m (suc r) (cell x y))) (erosion p m r (cell x y)) n
    where
      go : (b : Bool) (v : ℕ) → Memᴰ q (cond b (record { column = x; row = y; reach = record { 0 = r }; depth = v } ∷ []) []) → (q.column ≡ x)
          × (q.row ≡ y) × (q.reach.0 ≡ r)
      go true v n = let e = Memᴰ.eq_of_singleton n in (ap (λ o. o.column) e, ap (λ o. o.row) e, ap (λ o. o.reach.0) e)
      go false v n = absurd (Memᴰ.not-nil n)

  in_row : (y : ℕ) (q : Plunge) → Memᴰ q (gather p.width 0 (λ x. listed_at p m r x y)) → (q.row ≡ y) × (q.reach.0 ≡ r)
  in_row y q n = let t = gather-out p.width 0 (λ x. listed_at p m r x y) n in let u = place t.0 y q t.3 in (u.1, u.2)

  row-rising : (y : ℕ) → Rising (gather p.width 0 (λ x. listed_at p m r x y))
  row-rising y =
      gather-rising p.width 0 (λ x. listed_at p m r x y) (λ x. cell-rising x y)
      (λ i j h q o a b. let s = place i y q a in let t = place j y o b in
      inr (omega (arith, s.2, t.2), inr (omega (arith, s.1, t.1), omega (arith, s.0, t.0))))

  abbrev pub of-reach : List Plunge
  of-reach = gather p.height 0 (λ y. gather p.width 0 (λ x. listed_at p m r x y))

  reach-rising : Rising of-reach
  reach-rising =
      gather-rising p.height 0 (λ y. gather p.width 0 (λ x. listed_at p m r x y)) row-rising
      (λ i j h q o a b. let s = in_row i q a in let t = in_row j o b in inr (omega (arith, s.1, t.1), inl (omega (arith, s.0, t.0))))

  in_reach : (q : Plunge) → Memᴰ q of-reach → q.reach.0 ≡ r
  in_reach q n = let t = gather-out p.height 0 (λ y. gather p.width 0 (λ x. listed_at p m r x y)) n in (in_row t.0 q t.3).1

-- "Order: reach, then row, then column, all rising."
pub listing-rising : (p : Head) (limit : ℕ) (m : List ℕ) → Rising (listing p limit m)
unfolding listing
listing-rising p limit m =
    gather-rising limit 0 (of-reach p m) (reach-rising p m)
    (λ i j h q o a b. inl (omega (arith, in_reach p m i q a, in_reach p m j o b)))

-- what stands before another is not the same, so a rising list has each plunge once
before-not : (q o : Plunge) → Before q o → q ≡ o → ⊥
before-not q o (inl h) e = omega (arith, ap (λ d. d.reach.0) e)
before-not q o (inr (r, inl h)) e = omega (arith, ap (λ d. d.row) e)
before-not q o (inr (r, inr (s, h))) e = omega (arith, ap (λ d. d.column) e)

pub rising-once : (q : Plunge) (qs : List Plunge) → Rising (q ∷ qs) → Memᴰ q qs → ⊥
rising-once q qs r m = before-not q q (r.0 q m) refl
