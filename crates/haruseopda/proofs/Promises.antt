-- What each call promises of narrowed arguments it promises of those that it was given: `narrowed`, call by call.
use Rattle.std.specs.Prelude.{Result}
use mathlib.Core.Path.{◌≡◌, refl, ap}
use mathlib.Core.Logic.{inl}
use mathlib.Core.Bool.{false, not}
use mathlib.Core.List.{List, [], ◌∷◌}
use Prim.Native.Nat.{ℕ, ◌*◌}
use lib.ListN.{length, drop}
use Rattle.geometry.specs.declared.Head.{Head}
use Rattle.geometry.specs.declared.Plunge.{Plunge}
use Rattle.geometry.specs.Plane.{cell}
use Rattle.geometry.specs.Plate.{area, tabulated}
use Rattle.theory.specs.Levels.{clearance, axis, reconstructed}
use Rattle.theory.specs.Erosion.{erosion, residue, volume}
use Rattle.theory.specs.Climbed.{erosion_count}
use Rattle.refusal.specs.Refusals.{trial, first_met, short, is_erosion_number, largest_erosion, is_level, head_of, free, Answered, Worked}
use Rattle.refusal.proofs.Refusals.{refused}
use Rattle.clearance_cell.specs.Calls.{clearance_answer, cell_answer}
use Rattle.clearance_maps.specs.Calls.{level_verdict, ClearanceMap, AxisMap, Reconstruction}
use Rattle.erosion_maps.specs.Calls.{erosion_verdict, Left, ErosionMap, ResidueMap, ScoreMap, volume_of, volume_answer}
use Rattle.residue_scores.specs.declared.Score.{Score}
use Rattle.residue_scores.specs.Scores.{score_of}
use Rattle.fields.specs.Fields.{file_length}
use Rattle.listing.specs.Answers.{room_trials}
use Rattle.jobs.specs.Calls.{ListAnswered, ListCall, listed}
use Rattle.c_arguments.specs.declared.Plate.{Plate}
use Rattle.c_arguments.specs.Narrow.{narrow_byte, narrow_word, narrow_plate}
use Rattle.c_arguments.proofs.Narrow.{Place, narrow_place, wrong_place, level-kept, number-kept, place_kept, narrowed}
use Rattle.refusal.specs.Refusals.{Verdict}
use Rattle.geometry.specs.declared.Clearance.{Clearance}
use Rattle.refusal.specs.declared.Refusal.{Refusal}
use Rattle.listing.specs.declared.Extent.{Extent}

-- ---- promises that after a refusal do not speak of what would have been given

answered-silent : (out out' : List ℕ) (r : Verdict) (n : ℕ) → free (refused n) ≡ false → (x y : List ℕ)
    → Answered (refused n) x out out' r → Answered (refused n) y out out' r
answered-silent out out' r n e x y q = record { answer = q.answer; bytes = q.bytes }

worked-silent : (a a' : List ℕ) (n : ℕ) → free (refused n) ≡ false → (x y : ℕ) → Worked (refused n) x a a' → Worked (refused n) y a a'
worked-silent a a' n e x y q = record { same = q.same; surplus = ap (drop y) (q.kept e); kept = q.kept }

left-silent : (out out' a a' b b' : List ℕ) (r : Verdict) (n : ℕ) → free (refused n) ≡ false → (x y : ℕ × List ℕ)
    → Left (refused n) x.0 x.1 out out' a a' b b' r → Left (refused n) y.0 y.1 out out' a a' b b' r
left-silent out out' a a' b b' r n e x y q =
    record {
      answered = answered-silent out out' r n e x.1 y.1 q.answered;
      first = worked-silent a a' n e x.0 y.0 q.first;
      second = worked-silent b b' n e x.0 y.0 q.second;
    }

listing-silent : (out out' a a' b b' : List ℕ) (r : Result Extent Refusal) (n : ℕ) → free (refused n) ≡ false → (x y : Head × List Plunge × ℕ)
    → ListAnswered (refused n) x.0 x.1 x.2 out out' a a' b b' r → ListAnswered (refused n) y.0 y.1 y.2 out out' a a' b b' r
listing-silent out out' a a' b b' r n e x y q =
    record {
      answer = q.answer;
      bytes = q.bytes;
      first = worked-silent a a' n e (area x.0) (area y.0) q.first;
      second = worked-silent b b' n e (area x.0) (area y.0) q.second;
    }

-- ---- the calls

-- refusal 4, over the buffers of a call
abbrev too_short : List ℕ → ℕ → ℕ → ℕ → ℕ → Verdict
too_short lengths k w h n = first_met (trial (short w h lengths) 4 0 ∷ [])

-- a call with nothing that 3 is about
abbrev nothing : ℕ → ℕ
nothing n = n

module _ (k w h : ℕ) (p : Plate) (e : p ≡ narrow_plate k w h) where
  pub cell-promise : (m : List ℕ) (t x y t' x' y' : ℕ) (r : Result Clearance Refusal) → t' ≡ narrow_byte t → x' ≡ narrow_word x → y' ≡ narrow_word y
      → r ≡ clearance_answer m p.kind p.width p.height t' x' y' → r ≡ clearance_answer m k w h t x y
  cell-promise m t x y t' x' y' r f g i =
      let c : Place = record { level = t; column = x; row = y } in
      let c' : Place = record { level = t'; column = x'; row = y' } in
      narrowed {A = Place} {X = ℕ} narrow_place wrong_place (λ k w h c. first_met (trial (short w h (length m ∷ [])) 4 0 ∷ []))
      (λ k w h c. clearance (head_of k w h) m c.level (cell c.column c.row)) (λ v d. r ≡ cell_answer v d) (λ n e x y q. q)
      k w h c (λ l o. place_kept w h l o c) p e c' (rw (f, g, i))

  -- a map of one level; of none
  module _ (m out out' : List ℕ) (r : Verdict) where
    level-promise : (new : ℕ → ℕ → ℕ → ℕ → List ℕ) (t t' : ℕ) → t' ≡ narrow_byte t
        → Answered (level_verdict m p.kind p.width p.height t' out) (new p.kind p.width p.height t') out out' r
        → Answered (level_verdict m k w h t out) (new k w h t) out out' r
    level-promise new t t' g =
        narrowed {A = ℕ} {X = List ℕ} narrow_byte (λ w h t. not (is_level t)) (too_short (length m ∷ length out ∷ [])) new
        (λ v new. Answered v new out out' r) (answered-silent out out' r) k w h t (λ l o. level-kept t) p e t' g

    pub clearance-map-promise : (t t' : ℕ) → t' ≡ narrow_byte t
        → ClearanceMap m p.kind p.width p.height t' out out' r → ClearanceMap m k w h t out out' r
    clearance-map-promise = level-promise (λ k w h t. tabulated (head_of k w h) (clearance (head_of k w h) m t))

    pub axis-map-promise : (t t' : ℕ) → t' ≡ narrow_byte t
        → AxisMap m p.kind p.width p.height t' out out' r → AxisMap m k w h t out out' r
    axis-map-promise = level-promise (λ k w h t. tabulated (head_of k w h) (axis (head_of k w h) m t))

    pub reconstruct-promise : Reconstruction m p.kind p.width p.height out out' r → Reconstruction m k w h out out' r
    reconstruct-promise =
        narrowed {A = ℕ} {X = List ℕ} nothing (λ w h n. false) (too_short (length m ∷ length out ∷ []))
        (λ k w h n. tabulated (head_of k w h) (reconstructed (head_of k w h) m)) (λ v new. Answered v new out out' r)
        (answered-silent out out' r) k w h 0 (λ l o. inl refl) p e 0 refl

  -- a map with two work buffers
  module _ (m out out' a a' b b' : List ℕ) where
    abbrev lengths : List ℕ
    lengths = length m ∷ length out ∷ length a ∷ length b ∷ []

    number-promise : (new : ℕ → ℕ → ℕ → ℕ → List ℕ) (n n' : ℕ) (r : Verdict) → n' ≡ narrow_word n
        → Left (erosion_verdict m p.kind p.width p.height n' out a b) (p.height * p.width) (new p.kind p.width p.height n')
        out out' a a' b b' r
        → Left (erosion_verdict m k w h n out a b) (h * w) (new k w h n) out out' a a' b b' r
    number-promise new n n' r g =
        narrowed {A = ℕ} {X = ℕ × List ℕ} narrow_word (λ w h n. not (is_erosion_number n)) (too_short lengths) (λ k w h n. (h * w, new k w h n))
        (λ v x. Left v x.0 x.1 out out' a a' b b' r) (left-silent out out' a a' b b' r) k w h n (λ l o. number-kept n) p e n' g

    pub erosion-map-promise : (n n' : ℕ) (r : Verdict) → n' ≡ narrow_word n
        → ErosionMap m p.kind p.width p.height n' out out' a a' b b' r → ErosionMap m k w h n out out' a a' b b' r
    erosion-map-promise = number-promise (λ k w h n. tabulated (head_of k w h) (erosion (head_of k w h) m n))

    pub residue-map-promise : (n n' : ℕ) (r : Verdict) → n' ≡ narrow_word n
        → ResidueMap m p.kind p.width p.height n' out out' a a' b b' r → ResidueMap m k w h n out out' a a' b b' r
    residue-map-promise = number-promise (λ k w h n. tabulated (head_of k w h) (residue (head_of k w h) m n))

    pub score-map-promise : (s : Score) (r : Verdict)
        → ScoreMap s m p.kind p.width p.height out out' a a' b b' r → ScoreMap s m k w h out out' a a' b b' r
    score-map-promise s r =
        narrowed {A = ℕ} {X = ℕ × List ℕ} nothing (λ w h n. false) (too_short lengths)
        (λ k w h n. (h * w, tabulated (head_of k w h) (score_of s (head_of k w h) largest_erosion m)))
        (λ v x. Left v x.0 x.1 out out' a a' b b' r) (left-silent out out' a a' b b' r) k w h 0 (λ l o. inl refl) p e 0 refl

    pub list-promise : (r : Result Extent Refusal) → ListCall m p.kind p.width p.height out out' a a' b b' r → ListCall m k w h out out' a a' b b' r
    list-promise r =
        narrowed {A = ℕ} {X = Head × List Plunge × ℕ} nothing (λ w h n. false)
        (λ k w h n. first_met (trial (short w h (length m ∷ length a ∷ length b ∷ [])) 4 0
        ∷ room_trials (file_length (head_of k w h) (length (listed m k w h))) out))
        (λ k w h n. (head_of k w h, listed m k w h, erosion_count (head_of k w h) m)) (λ v x. ListAnswered v x.0 x.1 x.2 out out' a a' b b' r)
        (listing-silent out out' a a' b b' r) k w h 0 (λ l o. inl refl) p e 0 refl

-- the volume takes no kind: 4 is one
pub volume-promise : (m : List ℕ) (w h w' h' : ℕ) (r : Result ℕ Refusal) → w' ≡ narrow_word w → h' ≡ narrow_word h
    → r ≡ volume_of m w' h' → r ≡ volume_of m w h
volume-promise m w h w' h' r f g =
    let p : Plate = record { kind = 4; width = w'; height = h' } in
    narrowed {A = ℕ} {X = ℕ} nothing (λ w h n. false) (too_short (length m ∷ [])) (λ k w h n. volume (head_of 4 w h) m)
    (λ v d. r ≡ volume_answer v d) (λ n e x y q. q) 4 w h 0 (λ l o. inl refl) p (rw (f, g)) 0 refl
