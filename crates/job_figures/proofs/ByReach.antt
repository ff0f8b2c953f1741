-- Figures by reach: one plunge more changes the entry of its own reach and no other.
use mathlib.Core.Path.{◌≡◌, refl, sym, ap, ◌∙◌, subst}
use mathlib.Core.Bool.{Bool, true, false, cond}
use mathlib.Core.List.{List, [], ◌∷◌, ◌++◌, map}
use Prim.Native.Nat.{ℕ, suc, ◌+◌, ◌≤◌, ◌<◌, min, max}
use native.Mathlib.Omega.{arith}
use native.Mathlib.Nat.{add_comm, add_assoc, zero-add}
use native.Mathlib.Decide.{ℕ_discrete}
use borrow.Author.Tests.{eq-eqb, ne_eqb}
use lib.ListN.{length, get_or, set, replicate, length-set, length-replicate, get_or-replicate}
use lib.Seq.{get_or-set_same, get_or-set_other}
use Rattle.geometry.specs.declared.Plunge.{Plunge}
use Rattle.geometry.specs.Lists.{fold}
use Rattle.theory.proofs.Lists.{gather-more, length-each}
use Rattle.refusal.specs.Refusals.{largest_level}
use Rattle.reading.specs.Reading.{IsReadable, nth_plunge, plunges_up_to, total}
use Rattle.reading.proofs.Answers.{plunge-asks}
use Rattle.job_figures.specs.Figures.{has_reach, plunges_of, count_of}
use Rattle.job_figures.specs.Passes.{reaches, Untallied, ByReach, Tallied}

-- ---- a figure that joins a number of each plunge of a reach

module _ (op : ℕ → ℕ → ℕ) (comm : (a b : ℕ) → op a b ≡ op b a) (assoc : (a b c : ℕ) → op (op a b) c ≡ op a (op b c)) (e : ℕ)
    (g : Plunge → ℕ) where
  abbrev joined : ℕ → List Plunge → ℕ
  joined r qs = fold op e (map g (plunges_of r qs))

  joined_same : (r : ℕ) (qs : List Plunge) (q : Plunge) → has_reach r q ≡ true → joined r (qs ++ q ∷ []) ≡ op (joined r qs) (g q)
  joined_same r [] q h = rw h (comm (g q) e)
  joined_same r (o ∷ qs) q h = go (has_reach r o) (joined_same r qs q h)
    where
      go : (b : Bool) → joined r (qs ++ q ∷ []) ≡ op (joined r qs) (g q)
          → fold op e (map g (cond b (o ∷ plunges_of r (qs ++ q ∷ [])) (plunges_of r (qs ++ q ∷ []))))
          ≡ op (fold op e (map g (cond b (o ∷ plunges_of r qs) (plunges_of r qs)))) (g q)
      go true k = ap (op (g o)) k ∙ sym (assoc (g o) (joined r qs) (g q))
      go false k = k

  joined-other : (r : ℕ) (qs : List Plunge) (q : Plunge) → has_reach r q ≡ false → joined r (qs ++ q ∷ []) ≡ joined r qs
  joined-other r [] q h = rw h
  joined-other r (o ∷ qs) q h = go (has_reach r o) (joined-other r qs q h)
    where
      go : (b : Bool) → joined r (qs ++ q ∷ []) ≡ joined r qs
          → fold op e (map g (cond b (o ∷ plunges_of r (qs ++ q ∷ [])) (plunges_of r (qs ++ q ∷ []))))
          ≡ fold op e (map g (cond b (o ∷ plunges_of r qs) (plunges_of r qs)))
      go true k = ap (op (g o)) k
      go false k = k

  by-reach-none : (entries : List ℕ) → entries ≡ replicate reaches e → ByReach (λ r. joined r []) entries
  by-reach-none entries h = record {
    size = ap length h ∙ length-replicate {A = ℕ} reaches e;
    each = λ r l. ap (λ (s : List ℕ). get_or s r 0) h ∙ get_or-replicate reaches r e 0 l;
  }

  by-reach-more : (qs : List Plunge) (entries : List ℕ) (q : Plunge) (k v : ℕ) → ByReach (λ r. joined r qs) entries → k ≡ q.reach.0
      → k < reaches → v ≡ op (get_or entries k 0) (g q) → ByReach (λ r. joined r (qs ++ q ∷ [])) (set entries k v)
  by-reach-more qs entries q k v b s l w = record {
    size = length-set entries k v ∙ b.size;
    each = λ r m. go r m (ℕ_discrete r k);
  }
    where
      go : (r : ℕ) → r < reaches → Dec (r ≡ k) → get_or (set entries k v) r 0 ≡ joined r (qs ++ q ∷ [])
      go r m (yes i) =
          subst (λ (t : ℕ). get_or (set entries k v) t 0 ≡ joined t (qs ++ q ∷ [])) (sym i)
          (get_or-set_same entries k v 0 (omega (arith, b.size)) ∙ w ∙ ap (λ (n : ℕ). op n (g q)) (b.each k l)
          ∙ sym (joined_same k qs q (eq-eqb q.reach.0 k (sym s))))
      go r m (no i) =
          get_or-set_other entries k r v 0 i ∙ b.each r m
          ∙ sym (joined-other r qs q (ne_eqb q.reach.0 r (λ t. i (sym (s ∙ t)))))

-- ---- how many

ones : (qs : List Plunge) → length qs ≡ fold ◌+◌ 0 (map (λ q. 1) qs)
ones [] = refl
ones (q ∷ qs) = omega (arith, ones qs)

count-few : (r : ℕ) (qs : List Plunge) → count_of r qs ≤ length qs
count-few r [] = omega arith
count-few r (q ∷ qs) = go (has_reach r q) (count-few r qs)
  where
    go : (b : Bool) → count_of r qs ≤ length qs → length (cond b (q ∷ plunges_of r qs) (plunges_of r qs)) ≤ suc (length qs)
    go true h = omega (arith, h)
    go false h = omega (arith, h)

-- ---- the three figures of every reach

up-to-more : (f : List ℕ) (i : ℕ) → plunges_up_to (i + 1) f ≡ plunges_up_to i f ++ nth_plunge f i ∷ []
up-to-more f i = gather-more i 0 (λ j. nth_plunge f j ∷ []) ∙ ap (λ (j : ℕ). plunges_up_to i f ++ nth_plunge f j ∷ []) (zero-add i)

min_comm : (a b : ℕ) → min a b ≡ min b a
min_comm a b = omega arith

min_assoc : (a b c : ℕ) → min (min a b) c ≡ min a (min b c)
min_assoc a b c = omega arith

max_comm : (a b : ℕ) → max a b ≡ max b a
max_comm a b = omega arith

max_assoc : (a b c : ℕ) → max (max a b) c ≡ max a (max b c)
max_assoc a b c = omega arith

-- counts as sums of ones
abbrev Ones : List Plunge → List ℕ → Type 0
Ones qs = ByReach (λ r. fold ◌+◌ 0 (map (λ q. 1) (plunges_of r qs)))

to-ones : (qs : List Plunge) (entries : List ℕ) → ByReach (λ r. count_of r qs) entries → Ones qs entries
to-ones qs entries b = record { size = b.size; each = λ r l. b.each r l ∙ ones (plunges_of r qs) }

from-ones : (qs : List Plunge) (entries : List ℕ) → Ones qs entries → ByReach (λ r. count_of r qs) entries
from-ones qs entries b = record { size = b.size; each = λ r l. b.each r l ∙ sym (ones (plunges_of r qs)) }

-- no plunge yet
pub tallied-none : (f counts least greatest : List ℕ) → Untallied counts least greatest → Tallied (plunges_up_to 0 f) counts least greatest
tallied-none f counts least greatest u = record {
  counted = from-ones [] counts (by-reach-none ◌+◌ add_comm add_assoc 0 (λ q. 1) counts u.none);
  low = by-reach-none min min_comm min_assoc largest_level (λ q. q.depth) least u.low;
  high = by-reach-none max max_comm max_assoc 0 (λ q. q.depth) greatest u.high;
}

-- one plunge more
module _ (f : List ℕ) (i : ℕ) (counts least greatest : List ℕ) (t : Tallied (plunges_up_to i f) counts least greatest) where
  pub tallied-few : i < 4294967296 → (r : ℕ) → r < reaches → get_or counts r 0 < 4294967296
  tallied-few h r l = omega (arith, t.counted.each r l, count-few r (plunges_up_to i f), length-each (nth_plunge f) i 0)

  pub tallied-more : (q : Plunge) (k n d u : ℕ) → q ≡ nth_plunge f i → k ≡ q.reach.0 → k < reaches → n ≡ get_or counts k 0 + 1
      → d ≡ min (get_or least k 0) q.depth → u ≡ max (get_or greatest k 0) q.depth
      → Tallied (plunges_up_to (i + 1) f) (set counts k n) (set least k d) (set greatest k u)
  tallied-more q k n d u e s l a b c =
      let w : plunges_up_to i f ++ q ∷ [] ≡ plunges_up_to (i + 1) f = ap (λ (o : Plunge). plunges_up_to i f ++ o ∷ []) e ∙ sym (up-to-more f i) in
      subst (λ (qs : List Plunge). Tallied qs (set counts k n) (set least k d) (set greatest k u)) w
      (record {
        counted = from-ones (plunges_up_to i f ++ q ∷ []) (set counts k n)
            (by-reach-more ◌+◌ add_comm add_assoc 0 (λ q. 1) (plunges_up_to i f) counts q k n (to-ones (plunges_up_to i f) counts t.counted) s l a);
        low = by-reach-more min min_comm min_assoc largest_level (λ q. q.depth) (plunges_up_to i f) least q k d t.low s l b;
        high = by-reach-more max max_comm max_assoc 0 (λ q. q.depth) (plunges_up_to i f) greatest q k u t.high s l c;
      })

-- the reach of a plunge that was read is one
pub reach-below : (f : List ℕ) (i : ℕ) (q : Plunge) → IsReadable f → i < total f → q ≡ nth_plunge f i → q.reach.0 < reaches
reach-below f i q ok h e = omega (arith, ap (λ (o : Plunge). o.reach.0) e, (plunge-asks f i ok h).1)
