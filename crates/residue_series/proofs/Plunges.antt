-- Laws of the listing by places: what marks stand for, how many they are, rows where nothing is listed, and the listing so far.
use mathlib.Core.Path.{◌≡◌, refl, sym, ap, ap₂, ◌∙◌}
use mathlib.Core.Logic.{◌⊎◌, inl, inr}
use mathlib.Core.Bool.{Bool, true, false, cond}
use mathlib.Core.List.{List, [], ◌∷◌, ◌++◌, append_assoc, append-nil}
use Prim.Native.Nat.{ℕ, zero, suc, ◌+◌, ◌*◌, ◌-◌, ◌%◌, ◌/◌, ◌≤◌, ◌<◌}
use native.Mathlib.Omega.{arith}
use native.Mathlib.Decide.{dec_le}
use native.Mathlib.Nat.{suc-mul, mul-le-mul_right, mod-lt, div-add-mod', div-lt_iff_lt-mul}
use native.Mathlib.Numerals.{add-one}
use borrow.Author.Tests.{lt-ltb, le-ltb, ltb-true, ltb-false, eq-eqb, ne_eqb}
use lib.Arith.{digits_div, digits_mod}
use lib.Dec.{eqb, ltb}
use lib.IntN.{ℤ, pos, negsuc}
use lib.ListN.{length, get_or, length-append}
use Rattle.geometry.specs.declared.Kind.{Kind}
use Rattle.geometry.specs.declared.Kind.TheVariants.{Diamond, Square}
use Rattle.geometry.specs.declared.Head.{Head}
use Rattle.geometry.specs.declared.Plunge.{Plunge}
use Rattle.geometry.specs.Lists.{gather}
use Rattle.geometry.specs.Plane.{cell, gap, dist}
use Rattle.geometry.specs.Plate.{On, area, at}
use Rattle.theory.specs.Erosion.{erosion, residue}
use Rattle.theory.specs.Climbed.{Bare}
use Rattle.theory.specs.Listing.{listed_at, listing}
use Rattle.theory.proofs.Distance.{gap-self}
use Rattle.theory.proofs.Plate.{on-or-off}
use Rattle.theory.proofs.Erosion.{erosion-is, erosion-off}
use Rattle.theory.proofs.Listing.{listing-stops}
use Rattle.residue_marks.specs.Marks.{mark_of, counted, tally}
use Rattle.erosion_series.specs.Pairs.{Last}
use Rattle.residue_series.specs.Plunges.{listed_reach, place_listed, so_far, on_mark, marks_to}
use Rattle.residue_series.proofs.Gather.{gather-on, gather-turn, gather_none, gather-stops, gather-flat}

-- ---- marks

-- a mark stands for the plunge of a residue above 0
pub mark-listed : (f : ℕ → ℕ → Plunge) (n a b : ℕ) → on_mark f n (mark_of a b) ≡ cond (ltb 0 (a - b)) (f n a ∷ []) []
mark-listed f n a b = go (ltb b a) refl
  where
    go : (t : Bool) → ltb b a ≡ t → on_mark f n (mark_of a b) ≡ cond (ltb 0 (a - b)) (f n a ∷ []) []
    go true e =
        let g : 0 < a - b = omega (arith, ltb-true b a e) in
        let d : a ≡ 0 → ⊥ = λ z. omega (arith, ltb-true b a e) in
        rw (e, lt-ltb _ _ g, ne_eqb _ _ d)
    go false e = let g : a - b ≤ 0 = omega (arith, ltb-false b a e) in rw (e, le-ltb _ _ g)

mark-length : (f : ℕ → ℕ → Plunge) (n mark : ℕ) → length (on_mark f n mark) ≡ counted mark
mark-length f n mark = go (eqb mark 0)
  where
    go : (t : Bool) → length (cond t [] (f n mark ∷ [])) ≡ cond t 0 1
    go true = refl
    go false = refl

-- how many plunges the marks of an array stand for
pub tally-length : (f : ℕ → ℕ → Plunge) (start : ℕ) (marks : List ℕ) (n : ℕ) → length (marks_to n f start marks) ≡ tally marks n
tally-length f start marks zero = refl
tally-length f start marks (suc n) =
    ap (λ (k : ℕ). length (marks_to k f start marks)) (sym (add-one n))
    ∙ ap length (gather-turn (λ i. on_mark f (start + i) (get_or marks i 0)) n)
    ∙ omega (
      arith,
      length-append (marks_to n f start marks) (on_mark f (start + n) (get_or marks n 0)),
      tally-length f start marks n,
      mark-length f (start + n) (get_or marks n 0),
    )

-- marks that are all 0 stand for nothing
pub unmarked-none : (f : ℕ → ℕ → Plunge) (start n : ℕ) (marks : List ℕ) → ((i : ℕ) → i < n → get_or marks i 0 ≡ 0) → marks_to n f start marks ≡ []
unmarked-none f start n marks z =
    gather_none (λ i. on_mark f (start + i) (get_or marks i 0)) n 0 (λ i a b. let e = z i (omega arith) in rw (eq-eqb _ _ e))

-- ---- rows where an erosion is 0

down : (kd : Kind) (x y : ℕ) (z : ℤ) (k : ℕ) → gap (pos y) z ≤ k → dist kd (cell x y) (record { col = pos x; row = z }) ≤ k
down Diamond x y z k h = omega (arith, gap-self (pos x))
down Square x y z k h = omega (arith, gap-self (pos x))

module _ (p : Head) (m : List ℕ) where
  pub erosion-north : (k x y : ℕ) → y < k → erosion p m k (cell x y) ≡ 0
  erosion-north k x y h =
      omega (arith, (erosion-is p m k (cell x y)).bound (record { col = pos x; row = negsuc 0 }) (down p.kind x y (negsuc 0) k (omega arith)))

  pub erosion-south : (k x y : ℕ) → x < p.width → y < p.height → p.height ≤ y + k → erosion p m k (cell x y) ≡ 0
  erosion-south k x y a b h =
      let g : p.height ≤ p.height = omega arith in
      let z : at p m (cell x p.height) ≡ 0 = rw (lt-ltb _ _ a, le-ltb _ _ g) in
      omega (arith, (erosion-is p m k (cell x y)).bound (cell x p.height) (down p.kind x y (pos p.height) k (omega arith)))

  -- where no row is left an erosion is 0 everywhere
  pub erosion-gone : (k : ℕ) → p.height ≤ k + k → Bare p m k
  erosion-gone k h c = go (on-or-off p c)
    where
      row : (x y : ℕ) → x < p.width → y < p.height → Dec (k ≤ y) → erosion p m k (cell x y) ≡ 0
      row x y a b (yes l) = erosion-south k x y a b (omega arith)
      row x y a b (no l) = erosion-north k x y (omega arith)

      go : On p c ⊎ ((n : List ℕ) → at p n c ≡ 0) → erosion p m k c ≡ 0
      go (inl o) = ap (erosion p m k) o.is ∙ row o.column o.row o.left o.upper (dec_le k o.row)
      go (inr z) = erosion-off p m k c z

  -- where an erosion is 0 nothing of its reach is listed
  pub listed-none : (r x y : ℕ) → erosion p m r (cell x y) ≡ 0 → listed_at p m r x y ≡ []
  unfolding residue
  listed-none r x y z = let g : residue p m (suc r) (cell x y) ≤ 0 = omega arith in rw (le-ltb _ _ g)

-- a row's number from its places: the rows before place k * w, and those from the last k rows on
pub row-above : (w k x y : ℕ) → y * w + x < k * w → y < k
row-above w k x y h = go (dec_le k y)
  where
    go : Dec (k ≤ y) → y < k
    go (yes l) = absurd (omega (arith, mul-le-mul_right w l))
    go (no l) = omega arith

pub row-beneath : (w k h x y : ℕ) → x < w → h * w ≤ y * w + x + k * w → h ≤ y + k
row-beneath w k h x y a l = go (dec_le h (y + k))
  where
    go : Dec (h ≤ y + k) → h ≤ y + k
    go (yes g) = g
    go (no g) =
        let o : suc (y + k) ≤ h = omega arith in
        absurd (omega (arith, mul-le-mul_right w o, suc-mul (y + k) w, native.Mathlib.Nat.add-mul y k w))

-- ---- the listing so far

module _ (p : Head) (m : List ℕ) (wide : 1 ≤ p.width) where
  abbrev w : ℕ
  w = p.width

  -- a reach's plunges, place by place
  pub reach-places : (r : ℕ) → listed_reach p m r ≡ gather (area p) 0 (place_listed p m r)
  reach-places r =
      gather-flat (place_listed p m r) w (λ y x. listed_at p m r x y) p.height
      (λ y x a b. ap₂ (λ (i j : ℕ). listed_at p m r i j) (digits_mod y b) (digits_div y b))

  place_none : (r n : ℕ) → n < area p → erosion p m r (cell (n % w) (n / w)) ≡ 0 → place_listed p m r n ≡ []
  place_none r n l z = listed-none p m r (n % w) (n / w) z

  -- some places more
  pub so_far_more : (k n number : ℕ) → so_far p m k (n + number) ≡ so_far p m k n ++ gather number n (place_listed p m (k - 1))
  so_far_more k n number =
      ap (λ l. gather (k - 1) 0 (listed_reach p m) ++ l) (gather-on (place_listed p m (k - 1)) n number)
      ∙ sym (append_assoc (gather (k - 1) 0 (listed_reach p m)) (gather n 0 (place_listed p m (k - 1))) (gather number n (place_listed p m (k - 1))))

  -- at the last rows that a residue can mark the whole reach is listed
  pub so-far-level : (k n : ℕ) → 1 ≤ k → n ≤ area p → area p ≤ n + (k - 1) * w → so_far p m k n ≡ gather k 0 (listed_reach p m)
  so-far-level k n some within last =
      let e : k ≡ k - 1 + 1 = omega arith in
      sym (ap (λ (j : ℕ). gather j 0 (listed_reach p m)) e ∙ gather-turn (listed_reach p m) (k - 1)
      ∙ ap (λ l. gather (k - 1) 0 (listed_reach p m) ++ l) (reach-places (k - 1) ∙ gather-stops (place_listed p m (k - 1)) n (area p) within none))
    where
      none : (j : ℕ) → n ≤ j → j < area p → place_listed p m (k - 1) j ≡ []
      none j a b =
          let i : j / w * w + j % w ≡ j = div-add-mod' j w in
          let y : j / w < p.height = (div-lt_iff_lt-mul wide).1 b in
          let x : j % w < w = mod-lt j wide in
          place_none (k - 1) j b
          (erosion-south p m (k - 1) (j % w) (j / w) x y (row-beneath w (k - 1) p.height (j % w) (j / w) x (omega arith)))

  -- before the first rows that the next residue can mark nothing of its reach is listed
  pub so-far-next : (k : ℕ) → k * w ≤ area p → so_far p m (k + 1) (k * w) ≡ gather k 0 (listed_reach p m)
  so-far-next k within =
      let e : k + 1 - 1 ≡ k = omega arith in
      ap (λ (j : ℕ). gather j 0 (listed_reach p m) ++ gather (k * w) 0 (place_listed p m j)) e
      ∙ ap (λ l. gather k 0 (listed_reach p m) ++ l) (gather_none (place_listed p m k) (k * w) 0 (λ j a b. none j (omega arith)))
      ∙ append-nil (gather k 0 (listed_reach p m))
    where
      none : (j : ℕ) → j < k * w → place_listed p m k j ≡ []
      none j b =
          let i : j / w * w + j % w ≡ j = div-add-mod' j w in
          place_none k j (omega arith) (erosion-north p m k (j % w) (j / w) (row-above w k (j % w) (j / w) (omega arith)))

-- the whole listing, where no reach is left or an erosion is bare: "later rungs can give no plunge"
pub reaches_end : (p : Head) (m : List ℕ) (k limit : ℕ) → k ≤ limit → Last p m limit k
    → listing p limit m ≡ gather k 0 (listed_reach p m)
unfolding listing
reaches_end p m k limit h (inl e) = ap (λ (j : ℕ). gather j 0 (listed_reach p m)) (sym e)
reaches_end p m k limit h (inr z) = listing-stops p limit m k h z
