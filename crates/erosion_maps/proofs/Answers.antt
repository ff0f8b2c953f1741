-- What a call leaves, refused and accepted; the shortest buffer stands for all four; the volume's sum.
use Rattle.std.specs.Prelude.{Ok}
use mathlib.Core.Path.{◌≡◌, refl, sym, ap, ◌∙◌, subst}
use mathlib.Core.Bool.{Bool, true, false}
use mathlib.Core.List.{List, [], ◌∷◌, ◌++◌}
use Prim.Native.Nat.{ℕ, ◌+◌, ◌*◌, ◌≤◌, ◌<◌, min}
use native.Mathlib.Omega.{arith}
use native.Mathlib.Numerals.{add-one}
use lib.ListN.{length, get_or, take}
use lib.Seq.{take-suc}
use Rattle.geometry.specs.declared.Head.{Head}
use Rattle.geometry.specs.Lists.{sum}
use Rattle.geometry.specs.Plane.{Cell}
use Rattle.geometry.specs.Plate.{area, tabulated}
use Rattle.theory.specs.Erosion.{volume}
use Rattle.theory.proofs.Residues.{volume-take}
use Rattle.buffers.specs.Fill.{PlateOnly}
use Rattle.buffers.proofs.Fill.{mapped-bytes, surplus-drop}
use Rattle.refusal.specs.Refusals.{first_met, map_trials, head_of, written, free, Worked}
use Rattle.refusal.proofs.Refusals.{same-verdict, shortest-two, map-sound, Sound}
use Rattle.erosion_series.specs.Pairs.{MapBuffers, MapFilled}
use Rattle.erosion_maps.specs.Maps.{four_verdict}
use Rattle.erosion_maps.specs.Calls.{Left}
use Rattle.refusal.specs.Refusals.{Verdict}

-- ---- the answer over four buffers

free-not : (v : Verdict) → v ≡ Ok tt → free v ≡ false → ⊥
free-not v e g = true-not-false (sym (ap free e) ∙ g)
  where
    true-not-false : true ≡ false → ⊥
    true-not-false d = let z : ◌≡◌ {A = ℕ} 0 1 = cc in omega arith

-- a work buffer whose plate's bytes were used
worked-plate : (v : Verdict) (p : Head) (a a' : List ℕ) → v ≡ Ok tt → PlateOnly p a a' → Worked v (area p) a a'
worked-plate v p a a' e x =
    record { same = x.same; surplus = surplus-drop p (λ c. 0) a a' x.same x.surplus; kept = λ g. absurd (free-not v e g) }

module _ (k w h : ℕ) (wrong : Bool) (m out a b : List ℕ) where
  abbrev said : Verdict
  said = four_verdict k w h wrong m out a b

  -- what is said of the shortest is said of all four
  pub by-shortest : (n : ℕ) → n ≡ min (min (min (length m) (length out)) (length a)) (length b) → first_met (map_trials k w h wrong (n ∷ [])) ≡ said
  by-shortest n e =
      ap (λ (i : ℕ). first_met (map_trials k w h wrong (i ∷ []))) e
      ∙ sym (same-verdict k w h wrong (length m ∷ length out ∷ length a ∷ length b ∷ [])
      (min (min (min (length m) (length out)) (length a)) (length b) ∷ [])
      (shortest-two (h * w) (length m) (length out) (length a ∷ length b ∷ [])
      ∙ shortest-two (h * w) (min (length m) (length out)) (length a) (length b ∷ [])
      ∙ shortest-two (h * w) (min (min (length m) (length out)) (length a)) (length b) []))

  module _ (e : said ≡ Ok tt) where
    sound : Sound w h wrong (min (min (min (length m) (length out)) (length a)) (length b))
    sound = map-sound k w h wrong _ (by-shortest (min (min (min (length m) (length out)) (length a)) (length b)) refl ∙ e)

    buffers : MapBuffers (head_of k w h) m out a b
    buffers =
        record {
          series = record {
            wide = sound.wide;
            read = omega (arith, sound.long);
            first = omega (arith, sound.long);
            second = omega (arith, sound.long);
          };
          room = omega (arith, sound.long);
        }

    -- on acceptance the map, then what stood there before
    pub left-filled : (f : Head → Cell → ℕ) (p : Head) (out' a' b' : List ℕ) → p ≡ head_of k w h → MapFilled p (f p) out out' a a' b b'
        → Left said (h * w) (tabulated (head_of k w h) (f (head_of k w h))) out out' a a' b b' (Ok tt)
    left-filled f p out' a' b' g n =
        let q = head_of k w h in
        let l : MapFilled q (f q) out out' a a' b b' = subst (λ (s : Head). MapFilled s (f s) out out' a a' b b') g n in
        record {
          answered = record {
            answer = sym e;
            bytes = mapped-bytes q (f q) out out' buffers.room l.map ∙ sym (ap (λ (u : Verdict). written u (tabulated q (f q)) out) e);
          };
          first = worked-plate said q a a' e l.first;
          second = worked-plate said q b b' e l.second;
        }

-- ---- the volume

pub sum_more : (m : List ℕ) (n : ℕ) → n < length m → sum (take (n + 1) m) ≡ sum (take n m) + get_or m n 0
sum_more m n h = ap (λ (j : ℕ). sum (take j m)) (add-one n) ∙ ap sum (take-suc m n 0 h) ∙ last (take n m) (get_or m n 0)
  where
    last : (l : List ℕ) (r : ℕ) → sum (l ++ (r ∷ [])) ≡ sum l + r
    last [] r = omega arith
    last (x ∷ l) r = omega (arith, last l r)

-- the volume, whatever kind is named
pub volume-sum : (w h : ℕ) (m : List ℕ) → h * w ≤ length m → sum (take (h * w) m) ≡ volume (head_of 4 w h) m
volume-sum w h m l = sym (volume-take (head_of 4 w h) m l)
