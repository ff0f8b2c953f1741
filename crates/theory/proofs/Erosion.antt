-- Erosions: each is the lowest depth of its ball, comes from the one before by one step, falls, and is 0 from half the smaller side on.
use mathlib.Core.Path.{◌≡◌, refl, sym, ap, ◌∙◌, subst}
use mathlib.Core.Logic.{◌⊎◌, inl, inr}
use mathlib.Core.List.{List, ◌∷◌, Memᴰ}
use Prim.Native.Nat.{ℕ, suc, ◌*◌, ◌≤◌, ◌<◌, min}
use native.Mathlib.Omega.{arith}
use native.Mathlib.Nat.{le_of_eq}
use native.Mathlib.Decide.{dec_le}
use borrow.Author.Tests.{lt-ltb, le-ltb}
use lib.IntN.{ℤ, pos, negsuc}
use Rattle.geometry.specs.declared.Kind.{Kind}
use Rattle.geometry.specs.declared.Kind.TheVariants.{Diamond, Square}
use Rattle.geometry.specs.declared.Head.{Head}
use Rattle.geometry.specs.Lists.{Lowest}
use Rattle.geometry.specs.Plane.{Cell, cell, gap, dist, Ball, ball, neighbours}
use Rattle.geometry.specs.Plate.{On, at, tabulated}
use Rattle.theory.specs.Erosion.{IsErosion, erosion, highest_near}
use Rattle.theory.specs.Climbed.{Bare}
use Rattle.theory.specs.Near.{lowest_near}
use Rattle.theory.proofs.Lists.{min-choice, max-choice, fold-extreme, extreme-among, lowest-unique}
use Rattle.theory.proofs.Distance.{gap-self, dist-self, dist-sym, dist-tri, dist-zero, near, step, window}
use Rattle.theory.proofs.Balls.{ball-in, ball-out}
use Rattle.theory.proofs.Plate.{on-or-off, at-tabulated-plane}

-- the highest of f among a cell and its neighbours: no lower than any, and met by one
module _ (kd : Kind) (f : Cell → ℕ) (c : Cell) where
  pub le-highest_near : {n : Cell} → Memᴰ n (window kd c) → f n ≤ highest_near kd f c
  le-highest_near {n} m = (fold-extreme max-choice f c (neighbours kd c)).bound n m

  pub highest_near-met : (n : Cell) × Memᴰ n (window kd c) × (f n ≡ highest_near kd f c)
  highest_near-met = (fold-extreme max-choice f c (neighbours kd c)).met

module _ (p : Head) (m : List ℕ) where
  -- the erosion is the lowest depth within distance k, over all cells of the plane
  pub erosion-is : (k : ℕ) (c : Cell) → IsErosion p m k c (erosion p m k c)
  unfolding erosion
  erosion-is k c = extreme-among in-ball of-ball (fold-extreme min-choice (at p m) c (ball p.kind c k))
    where
      in-ball : (o : Cell) → Memᴰ o (c ∷ ball p.kind c k) → Ball p.kind c k o
      in-ball o (Memᴰ.head e) = omega (arith, dist-self p.kind c, ap (dist p.kind c) e)
      in-ball o (Memᴰ.tail n) = ball-out p.kind c k n

      of-ball : (o : Cell) → Ball p.kind c k o → Memᴰ o (c ∷ ball p.kind c k)
      of-ball o h = Memᴰ.tail (ball-in p.kind c k h)

  -- and no other number is
  pub erosion-unique : (k : ℕ) (c : Cell) (v : ℕ) → IsErosion p m k c v → v ≡ erosion p m k c
  erosion-unique k c v h = lowest-unique (Ball p.kind c k) (at p m) v (erosion p m k c) h (erosion-is k c)

  -- "Rung 0 is the relief."
  pub erosion-zero : (c : Cell) → erosion p m 0 c ≡ at p m c
  erosion-zero c =
      sym (erosion-unique 0 c (at p m c) (record {
        bound = λ o h. le_of_eq (ap (at p m) (dist-zero p.kind c o (omega arith)));
        met = (c, omega (arith, dist-self p.kind c), refl);
      }))

  -- each erosion is the one before, lowered to the lowest among the cell and its neighbours
  pub erosion-step : (k : ℕ) (c : Cell) → erosion p m (suc k) c ≡ lowest_near p.kind (erosion p m k) c
  erosion-step k c = sym (erosion-unique (suc k) c v (record { bound = under; met = reached }))
    where
      v : ℕ
      v = lowest_near p.kind (erosion p m k) c

      least : Lowest (λ n. Memᴰ n (window p.kind c)) (erosion p m k) v
      least = fold-extreme min-choice (erosion p m k) c (neighbours p.kind c)

      under : (o : Cell) → dist p.kind c o ≤ suc k → v ≤ at p m o
      under o h = let t = step p.kind c o k h in omega (arith, least.bound t.0 t.1, (erosion-is k t.0).bound o t.2)

      reached : (o : Cell) × (dist p.kind c o ≤ suc k) × (at p m o ≡ v)
      reached =
          let t = least.met in
          let s = (erosion-is k t.0).met in
          (s.0, omega (arith, near p.kind c t.1, dist-tri p.kind c t.0 s.0, s.1), s.2 ∙ t.2)

  -- erosions fall
  pub erosion-falls : (j k : ℕ) → j ≤ k → (c : Cell) → erosion p m k c ≤ erosion p m j c
  erosion-falls j k h c = let s = (erosion-is j c).met in omega (arith, (erosion-is k c).bound s.0 (omega (arith, s.1)), s.2)

  pub erosion-le : (k : ℕ) (c : Cell) → erosion p m k c ≤ at p m c
  erosion-le k c = omega (arith, erosion-falls 0 k (omega arith) c, erosion-zero c)

  pub erosion-off : (k : ℕ) (c : Cell) → ((n : List ℕ) → at p n c ≡ 0) → erosion p m k c ≡ 0
  erosion-off k c z = omega (arith, erosion-le k c, z m)

  -- an erosion as a map has the same numbers at every cell of the plane
  pub at-erosion : (k : ℕ) (c : Cell) → at p (tabulated p (erosion p m k)) c ≡ erosion p m k c
  at-erosion k c = at-tabulated-plane p (erosion p m k) (erosion-off k) c

  -- once 0 everywhere, 0 ever after
  pub erosion-ended : (j k : ℕ) → j ≤ k → Bare p m j → Bare p m k
  erosion-ended j k h z c = omega (arith, erosion-falls j k h c, z c)

  -- no ball of that reach is on the plate
  pub erosion-top : (limit : ℕ) → min p.width p.height ≤ 2 * limit → Bare p m limit
  erosion-top limit s c = go (on-or-off p c)
    where
      low : (o : Cell) → at p m o ≡ 0 → dist p.kind c o ≤ limit → erosion p m limit c ≡ 0
      low o z h = omega (arith, (erosion-is limit c).bound o h)

      across : (kd : Kind) (a b y : ℤ) (k : ℕ) → gap a b ≤ k → dist kd (record { col = a; row = y }) (record { col = b; row = y }) ≤ k
      across Diamond a b y k h = omega (arith, gap-self y)
      across Square a b y k h = omega (arith, gap-self y)

      down : (kd : Kind) (x a b : ℤ) (k : ℕ) → gap a b ≤ k → dist kd (record { col = x; row = a }) (record { col = x; row = b }) ≤ k
      down Diamond x a b k h = omega (arith, gap-self x)
      down Square x a b k h = omega (arith, gap-self x)

      here : (o : On p c) (d : Cell) → dist p.kind (cell o.column o.row) d ≤ limit → dist p.kind c d ≤ limit
      here o d h = subst (λ e. dist p.kind e d ≤ limit) (sym o.is) h

      east-off : (y : ℕ) → at p m (cell p.width y) ≡ 0
      east-off y = let g : p.width ≤ p.width = omega arith in rw (le-ltb _ _ g)

      south-off : (x : ℕ) → x < p.width → at p m (cell x p.height) ≡ 0
      south-off x h = let g : p.height ≤ p.height = omega arith in rw (lt-ltb _ _ h, le-ltb _ _ g)

      wide : (o : On p c) → p.width ≤ 2 * limit → Dec (suc o.column ≤ limit) → erosion p m limit c ≡ 0
      wide o h (yes g) = low (record { col = negsuc 0; row = pos o.row }) refl
          (here o _ (across p.kind (pos o.column) (negsuc 0) (pos o.row) limit (omega arith)))
      wide o h (no g) = low (cell p.width o.row) (east-off o.row)
          (here o _ (across p.kind (pos o.column) (pos p.width) (pos o.row) limit (omega (arith, o.left))))

      tall : (o : On p c) → p.height ≤ 2 * limit → Dec (suc o.row ≤ limit) → erosion p m limit c ≡ 0
      tall o h (yes g) = low (record { col = pos o.column; row = negsuc 0 }) refl
          (here o _ (down p.kind (pos o.column) (pos o.row) (negsuc 0) limit (omega arith)))
      tall o h (no g) = low (cell o.column p.height) (south-off o.column o.left)
          (here o _ (down p.kind (pos o.column) (pos o.row) (pos p.height) limit (omega (arith, o.upper))))

      sides : On p c → Dec (p.width ≤ 2 * limit) → erosion p m limit c ≡ 0
      sides o (yes h) = wide o h (dec_le (suc o.column) limit)
      sides o (no h) = tall o (omega arith) (dec_le (suc o.row) limit)

      go : On p c ⊎ ((n : List ℕ) → at p n c ≡ 0) → erosion p m limit c ≡ 0
      go (inl o) = sides o (dec_le p.width (2 * limit))
      go (inr z) = erosion-off limit c z

  -- an erosion is no higher at a cell or a neighbour than the one before at the cell
  pub erosion-near : (k : ℕ) (c : Cell) {n : Cell} → Memᴰ n (window p.kind c) → erosion p m (suc k) n ≤ erosion p m k c
  erosion-near k c {n} w =
      let s = (erosion-is k c).met in
      let g : dist p.kind n s.0 ≤ suc k = omega (arith, dist-sym p.kind n c, near p.kind c w, dist-tri p.kind n c s.0, s.1) in
      omega (arith, (erosion-is (suc k) n).bound s.0 g, s.2)
