-- Laws of marks: how many there are, stretches without one, and the places that are noted.
use mathlib.Core.Path.{◌≡◌, refl, sym, ap, ◌∙◌}
use mathlib.Core.Bool.{Bool, true, false, cond}
use mathlib.Core.List.{List, [], ◌∷◌, ◌++◌, append_assoc, append-nil}
use Prim.Native.Nat.{ℕ, zero, suc, ◌+◌, ◌-◌, ◌≤◌, ◌<◌}
use native.Mathlib.Omega.{arith}
use native.Mathlib.Numerals.{add-one}
use borrow.Author.Tests.{eq-eqb}
use lib.Bits.{bit_or, or_add_and, and_le_l, and_le_r}
use lib.Dec.{eqb}
use lib.ListN.{length, get_or, set, take, length-set}
use lib.Seq.{take-set-le, take-suc-set}
use Rattle.theory.proofs.Lists.{gather-split, gather-more, gather-nil, gather-same}
use Rattle.buffers.specs.Runs.{ZeroRun}
use Rattle.buffers.proofs.Zeros.{zeros-more}
use Rattle.residue_marks.specs.Marks.{counted, tally, on_place, marked_places, Noted}

-- ---- marks counted

pub counted-small : (v : ℕ) → counted v ≤ 1
counted-small v = go (eqb v 0)
  where
    go : (t : Bool) → cond t 0 1 ≤ 1
    go true = omega arith
    go false = omega arith

pub tally-few : (marks : List ℕ) (n : ℕ) → tally marks n ≤ n
tally-few marks zero = omega arith
tally-few marks (suc n) = omega (arith, tally-few marks n, counted-small (get_or marks n 0))

-- one place more
pub count-more : (marks : List ℕ) (from i count v : ℕ) → count + tally marks from ≡ tally marks i → v ≡ counted (get_or marks i 0)
    → count + v + tally marks from ≡ tally marks (i + 1)
count-more marks from i count v e g = omega (arith, ap (tally marks) (add-one i))

-- ---- stretches without a mark

or-none : (a b : ℕ) → bit_or a b ≡ 0 → (a ≡ 0) × (b ≡ 0)
or-none a b z = let e = or_add_and a b in let f = and_le_l a b in let g = and_le_r a b in (omega arith, omega arith)

module _ (marks : List ℕ) (from : ℕ) where
  -- a block, place by place: where all its marks together are 0, none is marked
  pub block_none : (all : ℕ) → all ≡ 0 → ZeroRun marks from (from + 0)
  block_none all z = record { none = λ x a b. absurd (omega arith) }

  pub block_more : (i all : ℕ) → (all ≡ 0 → ZeroRun marks from (from + i)) → bit_or all (get_or marks (from + i) 0) ≡ 0 → ZeroRun marks from (from + (i + 1))
  block_more i all u z =
      let k : from + (i + 1) ≡ from + i + 1 = omega arith in
      let o = or-none all (get_or marks (from + i) 0) z in rw k (zeros-more marks from (from + i) (u o.0) o.1)

-- ---- marked places noted

module _ (marks : List ℕ) (from count : ℕ) (old : List ℕ) where
  -- none yet
  pub noted-none : count ≤ from → Noted marks from from count old count old
  noted-none h =
      let e : from - from ≡ 0 = omega arith in
      record { few = h; same = refl; places = sym (ap (λ (n : ℕ). take count old ++ marked_places marks n from) e ∙ append-nil (take count old)) }

  -- one place more
  pub noted_more : (i n v : ℕ) (mid : List ℕ) → Noted marks from i count old n mid → from ≤ i → n < length mid → v ≡ counted (get_or marks i 0)
      → Noted marks from (i + 1) count old (n + v) (set mid n i)
  noted_more i n v mid s a b e =
      record {
        few = omega (arith, s.few, e, counted-small (get_or marks i 0));
        same = length-set mid n i ∙ s.same;
        places = go (eqb (get_or marks i 0) 0) refl;
      }
    where
      turn : marked_places marks (i + 1 - from) from ≡ marked_places marks (i - from) from ++ on_place marks i
      turn =
          let k : i + 1 - from ≡ i - from + 1 = omega arith in
          let l : from + (i - from) ≡ i = omega arith in
          ap (λ (j : ℕ). marked_places marks j from) k ∙ gather-more (i - from) from (on_place marks)
          ∙ ap (λ (j : ℕ). marked_places marks (i - from) from ++ on_place marks j) l

      on : (o : List ℕ) (r : ℕ) → take r (set mid n i) ≡ take n mid ++ o → on_place marks i ≡ o
          → take r (set mid n i) ≡ take count old ++ marked_places marks (i + 1 - from) from
      on o r g h =
          g ∙ ap (λ (l : List ℕ). l ++ o) s.places ∙ append_assoc (take count old) (marked_places marks (i - from) from) o
          ∙ ap (λ (l : List ℕ). take count old ++ l) (sym (turn ∙ ap (λ (l : List ℕ). marked_places marks (i - from) from ++ l) h))

      go : (t : Bool) → eqb (get_or marks i 0) 0 ≡ t → take (n + v) (set mid n i) ≡ take count old ++ marked_places marks (i + 1 - from) from
      go true g =
          let z : v ≡ 0 = e ∙ ap (λ (t : Bool). cond t 0 1) g in
          let k : n + v ≡ n = omega arith in
          on [] (n + v) (ap (λ (j : ℕ). take j (set mid n i)) k ∙ take-set-le n mid n i (omega arith) ∙ sym (append-nil (take n mid)))
          (ap (λ (t : Bool). cond t [] (i ∷ [])) g)
      go false g =
          let z : v ≡ 1 = e ∙ ap (λ (t : Bool). cond t 0 1) g in
          let k : n + v ≡ suc n = omega arith in
          on (i ∷ []) (n + v) (ap (λ (j : ℕ). take j (set mid n i)) k ∙ take-suc-set mid n i b) (ap (λ (t : Bool). cond t [] (i ∷ [])) g)

  -- a stretch, and then the next one
  pub noted-on : (mid to r s : ℕ) (half new : List ℕ) → from ≤ mid → mid ≤ to → Noted marks from mid count old r half → Noted marks mid to r half s new
      → Noted marks from to count old s new
  noted-on mid to r s half new a b m n =
      let k : to - from ≡ mid - from + (to - mid) = omega arith in
      let l : from + (mid - from) ≡ mid = omega arith in
      record {
        few = n.few;
        same = n.same ∙ m.same;
        places =
            n.places ∙ ap (λ (o : List ℕ). o ++ marked_places marks (to - mid) mid) m.places
            ∙ append_assoc (take count old) (marked_places marks (mid - from) from) (marked_places marks (to - mid) mid)
            ∙ ap (λ (o : List ℕ). take count old ++ o)
            (sym (ap (λ (j : ℕ). marked_places marks j from) k ∙ gather-split (mid - from) (to - mid) from (on_place marks)
            ∙ ap (λ (j : ℕ). marked_places marks (mid - from) from ++ marked_places marks (to - mid) j) l));
      }

  -- a stretch without a mark
  pub noted-skip : (to : ℕ) → from ≤ to → count ≤ from → ZeroRun marks from to → Noted marks from to count old count old
  noted-skip to a h u =
      record {
        few = omega arith;
        same = refl;
        places = sym (ap (λ (l : List ℕ). take count old ++ l)
            (gather-same (to - from) from (on_place marks) (λ i. []) (λ i b c. let z = u.none i b (omega arith) in rw (eq-eqb _ _ z))
            ∙ gather-nil (to - from) from (λ i. []) (λ i b. refl)) ∙ append-nil (take count old));
      }
