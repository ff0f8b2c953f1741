-- The listing: every listed plunge fits, every plunge that fits lies inside a listed one, and the listed ones are exactly the maximal ones.
use mathlib.Core.Path.{◌≡◌, refl, sym, ap, ◌∙◌, subst}
use mathlib.Core.Logic.{◌⊎◌, inl, inr, ◌↔◌}
use mathlib.Core.Bool.{Bool, true, false, cond}
use mathlib.Core.List.Memᴰ
use mathlib.Core.List.{List, [], ◌∷◌, ◌++◌, append-nil, Memᴰ}
use Prim.Native.Nat.{ℕ, zero, suc, ◌+◌, ◌*◌, ◌-◌, ◌≤◌, ◌<◌, min}
use native.Mathlib.Omega.{arith}
use native.Mathlib.Nat.{mul-one}
use native.Mathlib.Decide.{dec_le}
use borrow.Author.Tests.{ltb-true, lt-ltb, le-ltb}
use lib.Dec.{ltb}
use lib.ListN.{length}
use Rattle.geometry.specs.declared.Kind.{Kind}
use Rattle.geometry.specs.declared.Kind.TheVariants.{Diamond, Square}
use Rattle.geometry.specs.declared.Head.{Head}
use Rattle.geometry.specs.declared.Plunge.{Plunge}
use Rattle.geometry.specs.Lists.{gather}
use Rattle.geometry.specs.Plane.{Cell, cell, dist}
use Rattle.geometry.specs.Plate.{On, area, at}
use Rattle.geometry.specs.Plunges.{centre, Covers, BallWithin, Inside, OnPlate}
use Rattle.theory.specs.Erosion.{erosion, highest_near, residue}
use Rattle.theory.specs.Climbed.{Bare}
use Rattle.theory.specs.Listing.{Fits, Maximal, listed_at, listing}
use Rattle.theory.proofs.Lists.{gather-in, gather-few, gather-out, gather-split, gather-nil}
use Rattle.theory.proofs.Distance.{dist-sym, dist-tri, near, step}
use Rattle.theory.proofs.Balls.{within-sum}
use Rattle.theory.proofs.Plate.{on-or-off}
use Rattle.theory.proofs.Erosion.{le-highest_near, highest_near-met, erosion-is, erosion-off, erosion-top}
use Rattle.theory.proofs.Residues.{residue-suc, residue-ended}

-- a plunge fits exactly when its depth is from 1 to the erosion by its reach at its centre; that its ball is on the plate follows
module _ (p : Head) (m : List ℕ) (q : Plunge) where
  pub fits-erosion : Fits p m q → q.depth ≤ erosion p m q.reach.0 (centre q)
  fits-erosion f = let s = (erosion-is p m q.reach.0 (centre q)).met in omega (arith, f.deep s.0 s.1, s.2)

  pub erosion-fits : 1 ≤ q.depth → q.depth ≤ erosion p m q.reach.0 (centre q) → Fits p m q
  erosion-fits h l = record { wholly = λ o g. there o (under o g) (on-or-off p o); some = omega arith; deep = under }
    where
      under : (o : Cell) → Covers p.kind q o → q.depth ≤ at p m o
      under o g = omega (arith, (erosion-is p m q.reach.0 (centre q)).bound o g)

      there : (o : Cell) → q.depth ≤ at p m o → On p o ⊎ ((n : List ℕ) → at p n o ≡ 0) → On p o
      there o g (inl is) = is
      there o g (inr z) = absurd (omega (arith, z m))

  pub fits_iff : Fits p m q ↔ (OnPlate p q × (1 ≤ q.depth) × (q.depth ≤ erosion p m q.reach.0 (centre q)))
  fits_iff = ((λ f. (f.wholly, f.some, fits-erosion f)), λ t. erosion-fits t.1 t.2)

-- what the listing says of a plunge in it
pub record Listed (p : Head) (limit : ℕ) (m : List ℕ) (q : Plunge) : Type 0 where
  pub left : q.column < p.width
  pub upper : q.row < p.height
  pub small : q.reach.0 < limit
  pub whole : q.depth ≡ erosion p m q.reach.0 (centre q)
  pub over : highest_near p.kind (erosion p m (suc q.reach.0)) (centre q) < erosion p m q.reach.0 (centre q)

abbrev pub listed_plunge : Head → List ℕ → ℕ → ℕ → ℕ → Plunge
listed_plunge p m r x y = record { column = x; row = y; reach = record { 0 = r }; depth = erosion p m r (cell x y) }

one : {A : Type 0} (b : Bool) {r q : A} → Memᴰ q (cond b (r ∷ []) []) → (b ≡ true) × (q ≡ r)
one true h = (refl, Memᴰ.eq_of_singleton h)
one false h = absurd (Memᴰ.not-nil h)

module _ (p : Head) (limit : ℕ) (m : List ℕ) where
  pub listed-out : {q : Plunge} → Memᴰ q (listing p limit m) → Listed p limit m q
  unfolding listing
  listed-out {q} h =
      let a = gather-out limit 0 (λ r. gather p.height 0 (λ y. gather p.width 0 (λ x. listed_at p m r x y))) h in
      let b = gather-out p.height 0 (λ y. gather p.width 0 (λ x. listed_at p m a.0 x y)) a.3 in
      let d = gather-out p.width 0 (λ x. listed_at p m a.0 x b.0) b.3 in
      let e = one (ltb 0 (residue p m (suc a.0) (cell d.0 b.0))) d.3 in
      subst (Listed p limit m) {x = listed_plunge p m a.0 d.0 b.0} (sym e.1)
      (record {
        left = omega (arith, d.2);
        upper = omega (arith, b.2);
        small = omega (arith, a.2);
        whole = refl;
        over = omega (arith, ltb-true 0 (residue p m (suc a.0) (cell d.0 b.0)) e.0, residue-suc p m a.0 (cell d.0 b.0));
      })

  pub listed_in : {q : Plunge} → Listed p limit m q → Memᴰ q (listing p limit m)
  unfolding listing
  listed_in {q} l =
      gather-in limit 0 _ q.reach.0 (omega arith) (omega (arith, l.small))
      (gather-in p.height 0 _ q.row (omega arith) (omega (arith, l.upper))
      (gather-in p.width 0 _ q.column (omega arith) (omega (arith, l.left)) here))
    where
      positive : 0 < residue p m (suc q.reach.0) (centre q)
      positive = omega (arith, l.over, residue-suc p m q.reach.0 (centre q))

      here : Memᴰ q (listed_at p m q.reach.0 q.column q.row)
      here = rw (lt-ltb _ _ positive) (Memᴰ.head
          (λ i. record { column = q.column; row = q.row; reach = record { 0 = q.reach.0 }; depth = l.whole i }))

  -- every listed plunge fits
  pub listed-fits : (q : Plunge) → Memᴰ q (listing p limit m) → Fits p m q
  listed-fits q h = let l = listed-out h in erosion-fits p m q (omega (arith, l.over, l.whole)) (omega (arith, l.whole))

  -- past an erosion that is 0 everywhere nothing is listed
  pub listing-stops : (j : ℕ) → j ≤ limit → Bare p m j → listing p limit m ≡ listing p j m
  unfolding listing
  listing-stops j h z =
      let e : limit ≡ j + (limit - j) = omega arith in
      rw e (gather-split j (limit - j) 0 _ ∙ ap (λ l. listing p j m ++ l) (gather-nil (limit - j) (0 + j) _ empty) ∙ append-nil (listing p j m))
    where
      none : (r x y : ℕ) → j ≤ r → listed_at p m r x y ≡ []
      none r x y g = let u : residue p m (suc r) (cell x y) ≤ 0 = omega (arith, residue-ended p m j r g z (cell x y)) in rw (le-ltb _ _ u)

      empty : (r : ℕ) → 0 + j ≤ r → gather p.height 0 (λ y. gather p.width 0 (λ x. listed_at p m r x y)) ≡ []
      empty r g = gather-nil p.height 0 _ (λ y _. gather-nil p.width 0 _ (λ x _. none r x y (omega arith)))

  -- so the listing is the same for every large enough limit
  pub listing-limit : (j : ℕ) → min p.width p.height ≤ 2 * j → j ≤ limit → listing p limit m ≡ listing p j m
  listing-limit j s h = listing-stops j h (erosion-top p m j s)

cell_same : (kd : Kind) (a b c d : ℕ) → dist kd (cell a b) (cell c d) ≡ 0 → (a ≡ c) × (b ≡ d)
cell_same Diamond a b c d h = omega arith
cell_same Square a b c d h = omega arith

module _ (p : Head) (limit : ℕ) (m : List ℕ) (sides : min p.width p.height ≤ 2 * limit) where
  -- the key lemma: where the residue is 0, a ball of one reach more about the cell or a neighbour fits and contains the ball; at the limit there is none
  pub enlarge : (n k : ℕ) (c : Cell) (v : ℕ) → k + n ≡ limit → 1 ≤ v → v ≤ erosion p m k c → (q : Plunge) × Memᴰ q (listing p limit m)
      × BallWithin p.kind c k (centre q) q.reach.0 × (v ≤ q.depth)
  enlarge zero k c v e h l = absurd (let g : k ≡ limit = omega arith in omega (arith, rw g at l, erosion-top p m limit sides c))
  enlarge (suc n) k c v e h l = go (on-or-off p c) (dec_le (erosion p m k c) (highest_near p.kind (erosion p m (suc k)) c))
      (λ d g. enlarge n (suc k) d v (omega arith) h g)
    where
      go : On p c ⊎ ((o : List ℕ) → at p o c ≡ 0) → Dec (erosion p m k c ≤ highest_near p.kind (erosion p m (suc k)) c)
          → ((d : Cell) → v ≤ erosion p m (suc k) d → (q : Plunge) × Memᴰ q (listing p limit m)
          × BallWithin p.kind d (suc k) (centre q) q.reach.0 × (v ≤ q.depth))
          → (q : Plunge) × Memᴰ q (listing p limit m) × BallWithin p.kind c k (centre q) q.reach.0 × (v ≤ q.depth)
      go (inr z) d r = absurd (omega (arith, erosion-off p m k c z))
      go (inl o) (no g) r =
          let u : highest_near p.kind (erosion p m (suc k)) c < erosion p m k c = omega arith in (
            listed_plunge p m k o.column o.row,
            listed_in p limit m (record {
              left = o.left;
              upper = o.upper;
              small = omega arith;
              whole = refl;
              over =
                  subst (λ d. highest_near p.kind (erosion p m (suc k)) d < erosion p m k d) o.is u;
            }),
            (λ a b. subst (λ d. dist p.kind d a ≤ k) o.is b),
            subst (λ d. v ≤ erosion p m k d) o.is l,
          )
      go (inl o) (yes g) r =
          let t = highest_near-met p.kind (erosion p m (suc k)) c in
          let s = r t.0 (omega (arith, t.2)) in
          (s.0, s.1, (λ a b. s.2 a (omega (arith, dist-tri p.kind t.0 c a, dist-sym p.kind c t.0, near p.kind c t.1))), s.3)

  pub fits-small : (q : Plunge) → Fits p m q → q.reach.0 < limit
  fits-small q f = go (dec_le limit q.reach.0)
    where
      go : Dec (limit ≤ q.reach.0) → q.reach.0 < limit
      go (no h) = omega arith
      go (yes h) =
          let t = (erosion-is p m limit (centre q)).met in
          absurd (omega (arith, f.some, f.deep t.0 (omega (arith, t.1)), t.2, erosion-top p m limit sides (centre q)))

  -- every plunge that fits lies inside a listed one
  pub fits-inside : (q : Plunge) → Fits p m q → (o : Plunge) × Memᴰ o (listing p limit m) × Inside p.kind q o
  fits-inside q f =
      let t = enlarge (limit - q.reach.0) q.reach.0 (centre q) q.depth (omega (arith, fits-small q f)) f.some (fits-erosion p m q f) in
      (t.0, t.1, record { ball = t.2; depth = t.3 })

  -- a listed plunge lies inside no other that fits: one step towards the other centre is a neighbour that leaves no residue
  pub listed-alone : (q o : Plunge) → Memᴰ q (listing p limit m) → Fits p m o → Inside p.kind q o → o ≡ q
  listed-alone q o h f i = go (dec_le o.reach.0 q.reach.0)
    where
      l : Listed p limit m q
      l = listed-out p limit m h

      apart : dist p.kind (centre q) (centre o) + q.reach.0 ≤ o.reach.0
      apart = within-sum p.kind (centre q) q.reach.0 (centre o) o.reach.0 i.ball

      go : Dec (o.reach.0 ≤ q.reach.0) → o ≡ q
      go (yes g) =
          let e = cell_same p.kind o.column o.row q.column q.row (omega (arith, apart, dist-sym p.kind (centre q) (centre o))) in
          let r : o.reach.0 ≡ q.reach.0 = omega (arith, apart) in
          let s = (erosion-is p m q.reach.0 (centre q)).met in
          let v : o.depth ≡ q.depth = omega (arith, i.depth, f.deep s.0 (i.ball s.0 s.1), s.2, l.whole) in
          λ j. record { column = e.0 j; row = e.1 j; reach = record { 0 = r j }; depth = v j }
      go (no g) =
          let t = step p.kind (centre q) (centre o) (o.reach.0 - q.reach.0 - 1) (omega (arith, apart)) in
          let s = (erosion-is p m (suc q.reach.0) t.0).met in
          let d : dist p.kind (centre o) s.0 ≤ o.reach.0 =
          omega (arith, t.2, s.1, dist-sym p.kind t.0 (centre o), dist-tri p.kind (centre o) t.0 s.0) in
          absurd (omega (
            arith,
            l.over,
            l.whole,
            i.depth,
            f.deep s.0 d,
            s.2,
            le-highest_near p.kind (erosion p m (suc q.reach.0)) (centre q) t.1,
          ))

  -- a plunge is listed exactly when it fits and lies inside no other plunge that fits
  pub listed-iff-maximal : (q : Plunge) → Memᴰ q (listing p limit m) ↔ Maximal p m q
  listed-iff-maximal q = ((λ h. record { fits = listed-fits p limit m q h; alone = λ o f i. listed-alone q o h f i }), from)
    where
      from : Maximal p m q → Memᴰ q (listing p limit m)
      from a = let t = fits-inside q a.fits in
          subst (λ o. Memᴰ o (listing p limit m)) (a.alone t.0 (listed-fits p limit m t.0 t.1) t.2) t.1

-- ---- how long a listing can be

-- the plunges of one reach: at most one for each cell
pub reach_few : (p : Head) (m : List ℕ) (r : ℕ) → length (gather p.height 0 (λ y. gather p.width 0 (λ x. listed_at p m r x y))) ≤ area p
reach_few p m r =
    gather-few _ p.width (λ y. omega (arith, gather-few (λ x. listed_at p m r x y) 1 (one y) p.width 0, mul-one p.width)) p.height 0
  where
    few : (t : Bool) (q : Plunge) → length (cond t (q ∷ []) []) ≤ 1
    few true q = omega arith
    few false q = omega arith

    one : (y x : ℕ) → length (listed_at p m r x y) ≤ 1
    one y x = few (ltb 0 (residue p m (suc r) (cell x y))) _

pub listing-length : (p : Head) (limit : ℕ) (m : List ℕ) → length (listing p limit m) ≤ limit * area p
unfolding listing
listing-length p limit m = gather-few _ (area p) (reach_few p m) limit 0
