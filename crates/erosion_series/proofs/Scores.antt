-- What the buffers of a series give: an erosion's map, a residue's map, and scores, one residue after the other.
use mathlib.Core.Path.{◌≡◌, refl, sym, ap, ◌∙◌, fun_ext}
use mathlib.Core.Logic.{◌⊎◌, inl, inr}
use mathlib.Core.List.{List}
use Prim.Native.Nat.{ℕ, zero, suc, ◌+◌, ◌*◌, ◌-◌, ◌%◌, ◌≤◌, ◌<◌, max}
use native.Mathlib.Omega.{arith}
use native.Mathlib.Numerals.{add-one}
use lib.Arith.{digits_lt}
use lib.ListN.{length, get_or}
use Rattle.geometry.specs.declared.Head.{Head}
use Rattle.geometry.specs.Plane.{Cell, cell}
use Rattle.geometry.specs.Plate.{area, at}
use Rattle.theory.specs.Erosion.{erosion, highest_near, residue, largest_residue, residue_sum}
use Rattle.theory.specs.Climbed.{Bare}
use Rattle.theory.proofs.Plate.{at-cell}
use Rattle.theory.proofs.Erosion.{erosion-ended}
use Rattle.theory.proofs.Residues.{residue-ended, residue_sum-le, residue_sum-more, largest_residue-more, residue_sum-stops, largest_residue-stops}
use Rattle.buffers.specs.Fill.{Filled, Mapped}
use Rattle.residue_scores.specs.declared.Score.{Score}
use Rattle.residue_scores.specs.declared.Score.TheVariants.{Largest, Sum}
use Rattle.buffers.specs.Margin.{Margin}
use Rattle.erosion_step.specs.Steps.{step_numbers}
use Rattle.residue_scores.specs.Residues.{joined_score}
use Rattle.erosion_series.specs.Pairs.{HoldsErosion, Turn, Pair, PairToScore, PairScore, ScoreUpTo, Last}
use Rattle.residue_scores.specs.Scores.{score_of}
use Rattle.erosion_series.proofs.Pairs.{mod_cases, turn-margins, pair-long}

-- ---- erosions

-- where a series ended before its number, the erosion is 0 there and at the number
pub eroded-to-same : (p : Head) (m : List ℕ) (number k : ℕ) → k ≤ number → Last p m number k → (c : Cell)
    → erosion p m k c ≡ erosion p m number c
eroded-to-same p m number k h (inl e) c = ap (λ (j : ℕ). erosion p m j c) e
eroded-to-same p m number k h (inr z) c = z c ∙ sym (erosion-ended p m k number h z c)

pub held_mapped : (p : Head) (m : List ℕ) (number k : ℕ) (s old new : List ℕ) → HoldsErosion p m k s
    → ((c : Cell) → erosion p m k c ≡ erosion p m number c) → Filled (λ n. get_or s n 0) 0 (area p) old new → Mapped p (erosion p m number) old new
held_mapped p m number k s old new r e f =
    record {
      same = f.same;
      holds = λ x y a b. f.inside (y * p.width + x) (omega arith) (digits_lt b a) ∙ sym (at-cell p s x y a b) ∙ r.holds (cell x y) ∙ e (cell x y);
      surplus = f.over;
    }

-- ---- residues

-- the residue of a turn's two buffers
pub turn-residue : (p : Head) (m : List ℕ) (k : ℕ) (cur other : List ℕ) → Turn p m k cur other → 1 ≤ k → (x y : ℕ) → x < p.width → y < p.height
    → get_or other (y * p.width + x) 0 - highest_near p.kind (at p cur) (cell x y) ≡ residue p m k (cell x y)
unfolding residue
turn-residue p m zero cur other t h x y a b = absurd (omega arith)
turn-residue p m (suc k) cur other t h x y a b =
    let z : suc k - 1 ≡ k = omega arith in
    ap (λ (v : ℕ). v - highest_near p.kind (at p cur) (cell x y))
    (sym (at-cell p other x y a b) ∙ (t.behind h).holds (cell x y) ∙ ap (λ (j : ℕ). erosion p m j (cell x y)) z)
    ∙ ap (λ (f : Cell → ℕ). erosion p m k (cell x y) - highest_near p.kind f (cell x y)) (fun_ext t.held.holds)

-- one residue joined, by the pair's parity
pub pair-joined : (p : Head) (s : Score) (m : List ℕ) (k : ℕ) (a b old new : List ℕ) → 1 ≤ k → Pair p m k a b → PairScore p s k a b old new
    → (x y : ℕ) → x < p.width → y < p.height → get_or new (y * p.width + x) 0 ≡ joined_score s (get_or old (y * p.width + x) 0) (residue p m k (cell x y))
pair-joined p s m k a b old new h q e x y l u = go (mod_cases k)
  where
    go : (k % 2 ≡ 0) ⊎ (k % 2 ≡ 1) → get_or new (y * p.width + x) 0 ≡ joined_score s (get_or old (y * p.width + x) 0) (residue p m k (cell x y))
    go (inl f) = (e.even f).inside x y l (omega arith) u ∙ ap (joined_score s (get_or old (y * p.width + x) 0)) (turn-residue p m k a b (q.even f) h x y l u)
    go (inr f) = (e.odd f).inside x y l (omega arith) u ∙ ap (joined_score s (get_or old (y * p.width + x) 0)) (turn-residue p m k b a (q.odd f) h x y l u)

pub pair-scored-kept : (p : Head) (s : Score) (k : ℕ) (a b old new : List ℕ) → PairScore p s k a b old new → (length new ≡ length old)
    × ((n : ℕ) → area p ≤ n → get_or new n 0 ≡ get_or old n 0)
pair-scored-kept p s k a b old new e = go (mod_cases k)
  where
    go : (k % 2 ≡ 0) ⊎ (k % 2 ≡ 1) → (length new ≡ length old) × ((n : ℕ) → area p ≤ n → get_or new n 0 ≡ get_or old n 0)
    go (inl f) = ((e.even f).same, (e.even f).over)
    go (inr f) = ((e.odd f).same, (e.odd f).over)

-- what one residue asks of the pair
pub pair-asks : (p : Head) (m : List ℕ) (k : ℕ) (a b : List ℕ) → Pair p m k a b → (k % 2 ≡ 0 → Margin p (k - 1) b) × (k % 2 ≡ 1 → Margin p (k - 1) a)
pair-asks p m k a b q = ((λ f. (turn-margins p m k a b (q.even f)).1), λ f. (turn-margins p m k b a (q.odd f)).1)

pub pair-to-score : (p : Head) (m : List ℕ) (k : ℕ) (a b out : List ℕ) → Pair p m k a b → 1 ≤ k → k < step_numbers → area p ≤ length out
    → PairToScore p k a b out
pair-to-score p m k a b out q h n r =
    let l = pair-long p m k a b q in
    let g = pair-asks p m k a b q in
    record { some = h; number = n; first = l.0; second = l.1; room = r; even = g.0; odd = g.1 }

pub residue-mapped : (p : Head) (m : List ℕ) (k : ℕ) (a b old zeroed new : List ℕ) → 1 ≤ k → Pair p m k a b → Filled (λ n. 0) 0 (area p) old zeroed
    → PairScore p Largest k a b zeroed new → Mapped p (residue p m k) old new
residue-mapped p m k a b old zeroed new h q f e =
    let t = pair-scored-kept p Largest k a b zeroed new e in
    record {
      same = t.0 ∙ f.same;
      holds = λ x y l u. omega (arith, pair-joined p Largest m k a b zeroed new h q e x y l u, f.inside (y * p.width + x) (omega arith) (digits_lt u l));
      surplus = λ n l. t.1 n l ∙ f.over n l;
    }

pub residue-none : (p : Head) (m : List ℕ) (number k : ℕ) (old new : List ℕ) → 1 ≤ number → k < number → Bare p m k
    → Filled (λ n. 0) 0 (area p) old new → Mapped p (residue p m number) old new
residue-none p m zero k old new a h z f = absurd (omega arith)
residue-none p m (suc n) k old new a h z f =
    record {
      same = f.same;
      holds = λ x y l u. f.inside (y * p.width + x) (omega arith) (digits_lt u l) ∙ sym (residue-ended p m k n (omega arith) z (cell x y));
      surplus = f.over;
    }

-- ---- scores

module _ (p : Head) (m : List ℕ) (bytes : (n : ℕ) → get_or m n 0 < 256) where
  -- a score with one residue more
  score-step : (s : Score) (k x y : ℕ) → x < p.width → y < p.height
      → score_of s p (k + 1) m (cell x y) ≡ joined_score s (score_of s p k m (cell x y)) (residue p m (k + 1) (cell x y))
  score-step Largest k x y a b = largest_residue-more p m (cell x y) k ∙ ap
      (λ (j : ℕ). max (largest_residue p k m (cell x y)) (residue p m j (cell x y))) (sym (add-one k))
  score-step Sum k x y a b =
      let e : residue p m (suc k) (cell x y) ≡ residue p m (k + 1) (cell x y) = ap (λ (j : ℕ). residue p m j (cell x y)) (sym (add-one k)) in
      omega (arith, residue_sum-more p m (cell x y) k, residue_sum-le p m (cell x y) (k + 1), at-cell p m x y a b, bytes (y * p.width + x))

  pub score-more : (s : Score) (k : ℕ) (a b old mid new : List ℕ) → ScoreUpTo p s m k old mid → Pair p m (k + 1) a b
      → PairScore p s (k + 1) a b mid new → ScoreUpTo p s m (k + 1) old new
  score-more s k a b old mid new e q f =
      let t = pair-scored-kept p s (k + 1) a b mid new f in
      record {
        same = t.0 ∙ e.same;
        holds = λ x y l u. pair-joined p s m (k + 1) a b mid new (omega arith) q f x y l u ∙ ap
            (λ (v : ℕ). joined_score s v (residue p m (k + 1) (cell x y))) (e.holds x y l u) ∙ sym (score-step s k x y l u);
        surplus = λ n l. t.1 n l ∙ e.surplus n l;
      }

score-zero : (p : Head) (m : List ℕ) (s : Score) (c : Cell) → score_of s p 0 m c ≡ 0
unfolding largest_residue residue_sum
score-zero p m Largest c = refl
score-zero p m Sum c = refl

pub score-none : (p : Head) (m : List ℕ) (s : Score) (old zeroed : List ℕ) → Filled (λ n. 0) 0 (area p) old zeroed → ScoreUpTo p s m 0 zeroed zeroed
score-none p m s old zeroed f = record {
  same = refl;
  holds =
      λ x y a b. f.inside (y * p.width + x) (omega arith) (digits_lt b a) ∙ sym (score-zero p m s (cell x y));
  surplus = λ n a. refl;
}

score-stops : (p : Head) (m : List ℕ) (s : Score) (k limit : ℕ) → k ≤ limit → Bare p m k → (c : Cell)
    → score_of s p k m c ≡ score_of s p limit m c
score-stops p m Largest k limit h z c = sym (largest_residue-stops p m k limit h z c)
score-stops p m Sum k limit h z c = sym (residue_sum-stops p m k limit h z c)

-- at the end, or after an empty erosion, the score is whole
pub score-done : (p : Head) (m : List ℕ) (s : Score) (k limit : ℕ) (old zeroed new : List ℕ) → k ≤ limit → Last p m limit k
    → Filled (λ n. 0) 0 (area p) old zeroed → ScoreUpTo p s m k zeroed new → ScoreUpTo p s m limit old new
score-done p m s k limit old zeroed new h g f e =
    record { same = e.same ∙ f.same; holds = λ x y a b. e.holds x y a b ∙ same g (cell x y); surplus = λ n a. e.surplus n a ∙ f.over n a }
  where
    same : Last p m limit k → (c : Cell) → score_of s p k m c ≡ score_of s p limit m c
    same (inl i) c = ap (λ (j : ℕ). score_of s p j m c) i
    same (inr z) c = score-stops p m s k limit h z c

-- a series that ended before its number leaves no residue there
pub residue-short : (p : Head) (m : List ℕ) (number k : ℕ) (old new : List ℕ) → 1 ≤ number → k ≤ number → (k ≡ number → ⊥)
    → Last p m number k → Filled (λ n. 0) 0 (area p) old new → Mapped p (residue p m number) old new
residue-short p m number k old new a h d (inl e) f = absurd (d e)
residue-short p m number k old new a h d (inr z) f = residue-none p m number k old new a (omega arith) z f
