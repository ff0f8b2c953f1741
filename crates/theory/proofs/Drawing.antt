-- Drawing: the one number that the rule describes; drawing the listing of a relief gives that relief.
use mathlib.Core.Path.{◌≡◌, refl, sym, ap, ◌∙◌, subst}
use mathlib.Core.Logic.{◌⊎◌, inl, inr}
use mathlib.Core.Bool.{true}
use mathlib.Core.List.Memᴰ
use mathlib.Core.List.{List, [], ◌∷◌, map, Memᴰ}
use Prim.Native.Nat.{ℕ, ◌*◌, ◌≤◌, min}
use native.Mathlib.Omega.{arith}
use native.Mathlib.Decide.{dec_le}
use borrow.Author.Tests.{le-leb, leb-true}
use lib.ListN.{length, take}
use Rattle.geometry.specs.declared.Kind.{Kind}
use Rattle.geometry.specs.declared.Head.{Head}
use Rattle.geometry.specs.declared.Plunge.{Plunge}
use Rattle.geometry.specs.Lists.{select, highest}
use Rattle.geometry.specs.Plane.{Cell}
use Rattle.geometry.specs.Plate.{On, area, at}
use Rattle.geometry.specs.Plunges.{Covers, covers}
use Rattle.theory.specs.Listing.{listing, IsDrawn, drawn, drawing}
use Rattle.theory.proofs.Lists.{select_in, select-out, highest-bound, highest-met}
use Rattle.theory.proofs.Distance.{dist-self}
use Rattle.theory.proofs.Plate.{on-or-off, at-tabulated, tabulated-same, tabulated-at}
use Rattle.theory.proofs.Erosion.{erosion-zero}
use Rattle.theory.proofs.Listing.{enlarge, listed-fits}

module _ (kd : Kind) (qs : List Plunge) (c : Cell) where
  -- as deep as each plunge whose ball holds the cell
  pub le-drawn : {q : Plunge} → Memᴰ q qs → Covers kd q c → q.depth ≤ drawn kd qs c
  unfolding drawn
  le-drawn {q} m h = highest-bound (λ q. q.depth) (select (λ q. covers kd q c) qs) (select_in (λ q. covers kd q c) qs m (le-leb _ _ h))

  -- and, above 0, as deep as one of them
  pub drawn-met : 1 ≤ drawn kd qs c → (q : Plunge) × Memᴰ q qs × Covers kd q c × (q.depth ≡ drawn kd qs c)
  unfolding drawn
  drawn-met h =
      let t = highest-met (λ q. q.depth) (select (λ q. covers kd q c) qs) h in
      let s = select-out (λ q. covers kd q c) qs t.1 in
      (t.0, s.0, leb-true _ _ s.1, t.2)

  pub drawn-le : (v : ℕ) → ((q : Plunge) → Memᴰ q qs → Covers kd q c → q.depth ≤ v) → drawn kd qs c ≤ v
  drawn-le v h = go (dec_le 1 (drawn kd qs c))
    where
      go : Dec (1 ≤ drawn kd qs c) → drawn kd qs c ≤ v
      go (no g) = omega arith
      go (yes g) = let t = drawn-met g in omega (arith, h t.0 t.1 t.2, t.3)

  -- "the highest depth among plunges whose ball holds it, 0 if none"
  pub drawn-is : IsDrawn kd qs c (drawn kd qs c)
  unfolding drawn
  drawn-is = go (select (λ q. covers kd q c) qs) refl
    where
      go : (l : List Plunge) → select (λ q. covers kd q c) qs ≡ l → IsDrawn kd qs c (drawn kd qs c)
      go [] e = inr (
        (λ q m h. Memᴰ.not-nil (rw e at (select_in (λ q. covers kd q c) qs m (le-leb _ _ h)))),
        ap (λ (l : List Plunge). highest 0 (map (λ q. q.depth) l)) e,
      )
      go (o ∷ os) e = inl (record { bound = λ q m. le-drawn m.0 m.1; met = some (dec_le 1 (drawn kd qs c)) })
        where
          s : Memᴰ o qs × (covers kd o c ≡ true)
          s = select-out (λ q. covers kd q c) qs (subst (λ (l : List Plunge). Memᴰ o l) (sym e) (Memᴰ.head refl))

          some : Dec (1 ≤ drawn kd qs c) → (q : Plunge) × (Memᴰ q qs × Covers kd q c) × (q.depth ≡ drawn kd qs c)
          some (yes h) = let t = drawn-met h in (t.0, (t.1, t.2), t.3)
          some (no h) = (o, (s.0, leb-true _ _ s.1), omega (arith, le-drawn s.0 (leb-true _ _ s.1)))

  -- and no other number is
  pub drawn-unique : (v : ℕ) → IsDrawn kd qs c v → v ≡ drawn kd qs c
  drawn-unique v (inl h) = omega (arith, le-drawn h.met.1.0 h.met.1.1, h.met.2, drawn-le v (λ q m g. h.bound q (m, g)))
  drawn-unique v (inr h) = omega (arith, h.1, drawn-le 0 (λ q m g. absurd (h.0 q m g)))

module _ (p : Head) (limit : ℕ) (m : List ℕ) (sides : min p.width p.height ≤ 2 * limit) where
  -- drawing the listing of a relief gives that relief, at every cell of the plane
  pub drawn-listing : (c : Cell) → drawn p.kind (listing p limit m) c ≡ at p m c
  drawn-listing c = go (dec_le 1 (at p m c))
    where
      over : drawn p.kind (listing p limit m) c ≤ at p m c
      over = drawn-le p.kind (listing p limit m) c (at p m c) (λ q h g. (listed-fits p limit m q h).deep c g)

      go : Dec (1 ≤ at p m c) → drawn p.kind (listing p limit m) c ≡ at p m c
      go (no h) = omega (arith, over)
      go (yes h) =
          let t = enlarge p limit m sides limit 0 c (at p m c) (omega arith) h (omega (arith, erosion-zero p m c)) in
          omega (arith, over, le-drawn p.kind (listing p limit m) c t.1 (t.2 c (omega (arith, dist-self p.kind c))), t.3)

  -- and byte for byte
  pub drawing-listing : area p ≤ length m → drawing p (listing p limit m) ≡ take (area p) m
  drawing-listing h = tabulated-same p (drawn p.kind (listing p limit m)) (at p m) (λ c o. drawn-listing c) ∙ tabulated-at p m h

  pub at-drawing-listing : (c : Cell) → at p (drawing p (listing p limit m)) c ≡ at p m c
  at-drawing-listing c = go (on-or-off p c)
    where
      go : On p c ⊎ ((n : List ℕ) → at p n c ≡ 0) → at p (drawing p (listing p limit m)) c ≡ at p m c
      go (inl o) = at-tabulated p (drawn p.kind (listing p limit m)) c o ∙ drawn-listing c
      go (inr z) = z _ ∙ sym (z m)
