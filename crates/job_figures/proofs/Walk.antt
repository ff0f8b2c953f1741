-- A walk along a file's plunges that adds up something from each to the next.
use mathlib.Core.Path.{◌≡◌, refl, sym, ap, ◌∙◌}
use mathlib.Core.Bool.{Bool, true, false, cond}
use mathlib.Core.List.{List, [], ◌∷◌}
use Prim.Native.Nat.{ℕ, suc, ◌+◌, ◌-◌, ◌*◌, ◌≤◌, ◌<◌}
use native.Mathlib.Omega.{arith}
use native.Mathlib.Nat.{mul-add}
use native.Mathlib.Numerals.{add-one}
use lib.Dec.{eqb}
use lib.ListN.{get_or}
use Rattle.geometry.specs.declared.Plunge.{Plunge}
use Rattle.geometry.specs.Lists.{gather}
use Rattle.fields.specs.Fields.{place}
use Rattle.reading.specs.Reading.{IsReadable, head_in, nth_plunge, plunges_in, total}
use Rattle.reading.proofs.Readable.{readable-checked}
use Rattle.reading.proofs.Bytes.{number-below}
use Rattle.motion.specs.Changes.{changes_after, changes_in}
use Rattle.geometry.specs.declared.Kind.TheVariants.{Diamond}
use Rattle.geometry.specs.Plane.{dist}
use Rattle.geometry.specs.Plunges.{centre}
use Rattle.job_figures.specs.Figures.{travel_after, travel_in}
use Rattle.job_figures.specs.Passes.{longest_way}

-- ---- the plunges that are left

each_step : {A : Type 0} (g : ℕ → A) (n i : ℕ) → i < n
    → gather (n - i) i (λ j. g j ∷ []) ≡ g i ∷ gather (n - (i + 1)) (i + 1) (λ j. g j ∷ [])
each_step g n i h = let e : n - i ≡ suc (n - (i + 1)) = omega arith in
    ap (λ (k : ℕ). gather k i (λ j. g j ∷ [])) e ∙ ap (λ (k : ℕ). g i ∷ gather (n - (i + 1)) k (λ j. g j ∷ [])) (sym (add-one i))

-- the plunges of a file from number i on
abbrev plunges_from : List ℕ → ℕ → List Plunge
plunges_from f i = gather (total f - i) i (λ j. nth_plunge f j ∷ [])

-- the end field's number has 32 bits
pub total-small : (f : List ℕ) → IsReadable f → ((i : ℕ) → get_or f i 0 < 256) → total f < 4294967296
total-small f ok bytes = let e = (readable-checked f ok).closed.number in omega (arith, e, number-below f (place (head_in f) (total f)) bytes)

-- ---- the walk

-- what is summed up to plunge i, with what is left, is the whole; each step gave most at most
pub record Walked (after : Plunge → List Plunge → ℕ) (most : ℕ) (f : List ℕ) (whole : ℕ) (before : Plunge) (sum i : ℕ) : Type 0 where
  pub within : i ≤ total f
  pub left : sum + after before (plunges_from f i) ≡ whole
  pub few : sum ≤ most * i

module _ (after : Plunge → List Plunge → ℕ) (step : Plunge → Plunge → ℕ)
    (more : (q o : Plunge) (qs : List Plunge) → after q (o ∷ qs) ≡ step q o + after o qs) (most : ℕ) (f : List ℕ) (whole : ℕ) where
  walked_more : (before next : Plunge) (sum i d : ℕ) → Walked after most f whole before sum i → i < total f → next ≡ nth_plunge f i
      → d ≡ step before next → d ≤ most → Walked after most f whole next (sum + d) (i + 1)
  walked_more before next sum i d w h e s l = record {
    within = omega arith;
    left = omega (
      arith,
      w.left,
      s,
      ap (after before) (each_step (nth_plunge f) (total f) i h ∙ ap (λ (q : Plunge). q ∷ plunges_from f (i + 1)) (sym e)),
      more before next (plunges_from f (i + 1)),
    );
    few = few' most sum i d w.few l;
  }
    where
      few' : (m s i d : ℕ) → s ≤ m * i → d ≤ m → s + d ≤ m * (i + 1)
      few' m s i d a b = omega (arith, mul-add m i 1)

-- ---- changes and travel

abbrev changing : Plunge → List Plunge → ℕ
changing q qs = changes_after q.reach.0 qs

abbrev pub Changed : List ℕ → Plunge → ℕ → ℕ → Type 0
Changed f = Walked changing 1 f (changes_in (plunges_in f))

abbrev pub Travelled : List ℕ → Plunge → ℕ → ℕ → Type 0
Travelled f = Walked travel_after longest_way f (travel_in (plunges_in f))

one-most : (b : Bool) → cond b 0 1 ≤ 1
one-most true = omega arith
one-most false = omega arith

pub step-one : (d : ℕ) (b : Bool) → d ≡ cond b 0 1 → d ≤ 1
step-one d b e = omega (arith, e, one-most b)

module _ (f : List ℕ) where
  pub changed-more : (before next : Plunge) (sum i d : ℕ) → Changed f before sum i → i < total f → next ≡ nth_plunge f i
      → d ≡ cond (eqb next.reach.0 before.reach.0) 0 1 → Changed f next (sum + d) (i + 1)
  changed-more before next sum i d w h e s =
      walked_more changing (λ q o. cond (eqb o.reach.0 q.reach.0) 0 1) (λ q o qs. refl) 1 f (changes_in (plunges_in f))
      before next sum i d w h e s (step-one d (eqb next.reach.0 before.reach.0) s)

  pub travelled-more : (before next : Plunge) (sum i d : ℕ) → Travelled f before sum i → i < total f → next ≡ nth_plunge f i
      → d ≡ dist Diamond (centre before) (centre next) → d ≤ longest_way → Travelled f next (sum + d) (i + 1)
  travelled-more = walked_more travel_after (λ q o. dist Diamond (centre q) (centre o)) (λ q o qs. refl) longest_way f (travel_in (plunges_in f))
