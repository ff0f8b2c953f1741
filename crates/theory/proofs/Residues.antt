-- Residues are never below 0; a cell's scores are at most its depth; past an empty erosion no residue is left.
use mathlib.Core.Path.{◌≡◌, refl, ap, ◌∙◌}
use mathlib.Core.List.Memᴰ
use mathlib.Core.List.{List, [], ◌∷◌, ◌++◌}
use Prim.Native.Nat.{ℕ, zero, suc, ◌+◌, ◌*◌, ◌-◌, ◌≤◌, min, max}
use native.Mathlib.Omega.{arith}
use lib.ListN.{length, take}
use Rattle.geometry.specs.declared.Head.{Head}
use Rattle.geometry.specs.Lists.{gather, highest, sum}
use Rattle.geometry.specs.Plane.{Cell}
use Rattle.geometry.specs.Plate.{at, area}
use Rattle.theory.specs.Erosion.{erosion, highest_near, residue, residues, largest_residue, residue_sum, volume}
use Rattle.theory.specs.Climbed.{Bare}
use Rattle.theory.proofs.Lists.{gather-more}
use Rattle.theory.proofs.Plate.{tabulated-at}
use Rattle.theory.proofs.Erosion.{le-highest_near, highest_near-met, erosion-near, erosion-ended, erosion-top, erosion-zero}

module _ (p : Head) (m : List ℕ) where
  -- "It is never below 0": what is taken off is no more than what it is taken from
  pub residue-exact : (k : ℕ) (c : Cell) → highest_near p.kind (erosion p m (suc k)) c ≤ erosion p m k c
  residue-exact k c = let t = highest_near-met p.kind (erosion p m (suc k)) c in omega (arith, t.2, erosion-near p m k c t.1)

  pub residue-suc : (k : ℕ) (c : Cell) → residue p m (suc k) c + highest_near p.kind (erosion p m (suc k)) c ≡ erosion p m k c
  unfolding residue
  residue-suc k c = omega (arith, residue-exact k c)

  -- a residue is no more than the fall of the erosion
  pub residue-fall : (k : ℕ) (c : Cell) → residue p m (suc k) c + erosion p m (suc k) c ≤ erosion p m k c
  residue-fall k c = omega (arith, residue-suc k c, le-highest_near p.kind (erosion p m (suc k)) c (Memᴰ.head refl))

  -- after an empty erosion
  pub residue-ended : (j k : ℕ) → j ≤ k → Bare p m j → (c : Cell) → residue p m (suc k) c ≡ 0
  residue-ended j k h z c = omega (arith, residue-fall k c, erosion-ended p m j k h z c)

  -- ---- scores

  module _ (c : Cell) where
    sum-from : (n k : ℕ) → sum (gather n (suc k) (λ j. residue p m j c ∷ [])) ≤ erosion p m k c
    sum-from zero k = omega arith
    sum-from (suc n) k = omega (arith, residue-fall k c, sum-from n (suc k))

    highest-sum : (n k : ℕ) → highest 0 (gather n k (λ j. residue p m j c ∷ [])) ≤ sum (gather n k (λ j. residue p m j c ∷ []))
    highest-sum zero k = omega arith
    highest-sum (suc n) k = omega (arith, highest-sum n (suc k))

    -- both scores are at most the cell's depth, so they fit a byte
    pub residue_sum-le : (limit : ℕ) → residue_sum p limit m c ≤ at p m c
    unfolding residue_sum
    residue_sum-le limit = omega (arith, sum-from limit 0, erosion-zero p m c)

    pub largest_residue-le : (limit : ℕ) → largest_residue p limit m c ≤ residue_sum p limit m c
    unfolding largest_residue residue_sum
    largest_residue-le limit = highest-sum limit 1

    -- residues that are all 0 add nothing
    scores-none : (n k : ℕ) → ((j : ℕ) → k ≤ j → residue p m j c ≡ 0) → (sum (gather n k (λ j. residue p m j c ∷ [])) ≡ 0)
        × (highest 0 (gather n k (λ j. residue p m j c ∷ [])) ≡ 0)
    scores-none zero k z = (refl, refl)
    scores-none (suc n) k z = let r = scores-none n (suc k) (λ j h. z j (omega arith)) in
        (omega (arith, z k (omega arith), r.0), omega (arith, z k (omega arith), r.1))

    -- the scores are the same for every limit at which the erosion has ended
    scores-stop : (n r k : ℕ) → ((j : ℕ) → k + n ≤ j → residue p m j c ≡ 0)
        → (sum (gather (n + r) k (λ j. residue p m j c ∷ [])) ≡ sum (gather n k (λ j. residue p m j c ∷ [])))
        × (highest 0 (gather (n + r) k (λ j. residue p m j c ∷ [])) ≡ highest 0 (gather n k (λ j. residue p m j c ∷ [])))
    scores-stop zero r k z = let e : 0 + r ≡ r = omega arith in rw e (scores-none r k (λ j h. z j (omega arith)))
    scores-stop (suc n) r k z =
        let e : suc n + r ≡ suc (n + r) = omega arith in
        let t = scores-stop n r (suc k) (λ j h. z j (omega arith)) in
        rw e (omega (arith, t.0), omega (arith, t.1))

  -- the scores are the same for every limit from an empty erosion on
  module _ (j limit : ℕ) (more : j ≤ limit) (empty : Bare p m j) (c : Cell) where
    none : (k : ℕ) → 1 + j ≤ k → residue p m k c ≡ 0
    none zero h = absurd (omega arith)
    none (suc k) h = residue-ended j k (omega arith) empty c

    split : limit ≡ j + (limit - j)
    split = omega arith

    pub residue_sum-stops : residue_sum p limit m c ≡ residue_sum p j m c
    unfolding residue_sum
    residue_sum-stops = ap (λ (n : ℕ). sum (residues p n m c)) split ∙ (scores-stop c j (limit - j) 1 none).0

    pub largest_residue-stops : largest_residue p limit m c ≡ largest_residue p j m c
    unfolding largest_residue
    largest_residue-stops = ap (λ (n : ℕ). highest 0 (residues p n m c)) split ∙ (scores-stop c j (limit - j) 1 none).1

  -- so for every limit from half the smaller side on
  module _ (j limit : ℕ) (sides : min p.width p.height ≤ 2 * j) (more : j ≤ limit) (c : Cell) where
    pub residue_sum-limit : residue_sum p limit m c ≡ residue_sum p j m c
    residue_sum-limit = residue_sum-stops j limit more (erosion-top p m j sides) c

    pub largest_residue-limit : largest_residue p limit m c ≡ largest_residue p j m c
    largest_residue-limit = largest_residue-stops j limit more (erosion-top p m j sides) c

  -- one residue more
  module _ (c : Cell) where
    one_more : (k : ℕ) → residues p (k + 1) m c ≡ residues p k m c ++ (residue p m (suc k) c ∷ [])
    one_more k =
        let e : 1 + k ≡ suc k = omega arith in
        gather-more k 1 (λ j. residue p m j c ∷ []) ∙ ap (λ (j : ℕ). residues p k m c ++ (residue p m j c ∷ [])) e

    sum-last : (l : List ℕ) (r : ℕ) → sum (l ++ (r ∷ [])) ≡ sum l + r
    sum-last [] r = omega arith
    sum-last (n ∷ l) r = omega (arith, sum-last l r)

    highest-last : (l : List ℕ) (r : ℕ) → highest 0 (l ++ (r ∷ [])) ≡ max (highest 0 l) r
    highest-last [] r = omega arith
    highest-last (n ∷ l) r = omega (arith, highest-last l r)

    pub residue_sum-more : (k : ℕ) → residue_sum p (k + 1) m c ≡ residue_sum p k m c + residue p m (suc k) c
    unfolding residue_sum
    residue_sum-more k = ap sum (one_more k) ∙ sum-last (residues p k m c) (residue p m (suc k) c)

    pub largest_residue-more : (k : ℕ) → largest_residue p (k + 1) m c ≡ max (largest_residue p k m c) (residue p m (suc k) c)
    unfolding largest_residue
    largest_residue-more k = ap (highest 0) (one_more k) ∙ highest-last (residues p k m c) (residue p m (suc k) c)

  -- the volume is the sum of the plate's own bytes
  pub volume-take : area p ≤ length m → volume p m ≡ sum (take (area p) m)
  unfolding volume
  volume-take h = ap sum (tabulated-at p m h)
