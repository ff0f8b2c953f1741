-- Laws of the calls: what an accepted call knows of its plate and buffers, and what each answer leaves in the output.
use Rattle.std.specs.Prelude.{Ok}
use mathlib.Core.Path.{◌≡◌, sym, ap, ◌∙◌, subst}
use mathlib.Core.Bool.{Bool, not}
use mathlib.Core.List.{List, [], ◌∷◌, ◌++◌}
use Prim.Native.Nat.{ℕ, ◌+◌, ◌*◌, ◌-◌, ◌≤◌, min}
use native.Mathlib.Omega.{arith}
use lib.Arith.{digits_lt}
use lib.ListN.{length, get_or, drop, length-append, length-drop, get_or-append}
use lib.Seq.{get_or-append-add, get_or-drop}
use Rattle.geometry.specs.declared.Head.{Head}
use Rattle.geometry.specs.Plane.{Cell}
use Rattle.geometry.specs.Plate.{area, tabulated}
use Rattle.theory.proofs.Plate.{length-tabulated, get_or-tabulated}
use Rattle.refusal.specs.Refusals.{trial, first_met, map_trials, is_level, bad_kind, bad_sides, head_of, written, Answered}
use Rattle.refusal.proofs.Refusals.{Sound, shortest-two, map-sound, level-ok}
use Rattle.buffers.specs.Fill.{Mapped}
use Rattle.buffers.proofs.Fill.{mapped-bytes}
use Rattle.distance_transform.specs.Transform.{Plates}
use Rattle.refusal.specs.Refusals.{Verdict}

-- a map's bytes in place of a buffer's first ones
module _ (p : Head) (f : Cell → ℕ) (old : List ℕ) (room : area p ≤ length old) where
  abbrev new : List ℕ
  new = tabulated p f ++ drop (length (tabulated p f)) old

  pub bytes-mapped : Mapped p f old new
  bytes-mapped =
      record {
        same = omega (arith, length-append (tabulated p f) (drop (length (tabulated p f)) old), length-drop (length (tabulated p f)) old, length-tabulated p f);
        holds = λ x y h l. get_or-append (tabulated p f) (drop (length (tabulated p f)) old) 0 (y * p.width + x)
            (omega (arith, length-tabulated p f, digits_lt l h)) ∙ get_or-tabulated p f x y h l;
        surplus = past;
      }
    where
      past : (n : ℕ) → area p ≤ n → get_or new n 0 ≡ get_or old n 0
      past n h =
          let k : n ≡ length (tabulated p f) + (n - length (tabulated p f)) = omega (arith, length-tabulated p f) in
          ap (λ (i : ℕ). get_or new i 0) k
          ∙ get_or-append-add (tabulated p f) (drop (length (tabulated p f)) old) (n - length (tabulated p f)) 0
          ∙ get_or-drop (length (tabulated p f)) old (n - length (tabulated p f)) 0
          ∙ ap (λ (i : ℕ). get_or old i 0) (sym k)

module _ (k w h : ℕ) (wrong : Bool) (m out : List ℕ) where
  -- what is to be said of the arguments and both buffers
  abbrev said : Verdict
  said = first_met (map_trials k w h wrong (length m ∷ length out ∷ []))

  -- it is what is said of the smaller one
  smaller-said : (n : ℕ) → n ≡ min (length m) (length out) → first_met (map_trials k w h wrong (n ∷ [])) ≡ said
  smaller-said n e =
      ap (λ (i : ℕ). first_met (map_trials k w h wrong (i ∷ []))) e
      ∙ ap (λ (b : Bool). first_met (trial (bad_kind k) 1 0 ∷ trial (bad_sides w h) 2 0 ∷ trial wrong 3 0 ∷ trial b 4 0 ∷ []))
      (sym (shortest-two (h * w) (length m) (length out) []))

  pub by-shorter : (n : ℕ) → n ≡ min (length m) (length out) → (v : Verdict) → v ≡ first_met (map_trials k w h wrong (n ∷ [])) → v ≡ said
  by-shorter n e v g = g ∙ smaller-said n e

  module _ (a : said ≡ Ok tt) where
    sound : Sound w h wrong (min (length m) (length out))
    sound = map-sound k w h wrong (min (length m) (length out)) (smaller-said (min (length m) (length out)) (omega arith) ∙ a)

    plates : Plates (head_of k w h) m out
    plates =
        record {
          sides = record { wide = sound.wide; narrow = sound.narrow; tall = sound.tall; low = sound.low };
          read = omega (arith, sound.long);
          room = omega (arith, sound.long);
        }

    -- a level that is not refused is 1 or more
    pub accepted-level : (t : ℕ) → wrong ≡ not (is_level t) → 1 ≤ t
    accepted-level t e = (level-ok t (sym e ∙ sound.right)).0

    pub answered-accepted : (f : Head → Cell → ℕ) (p : Head) (out' : List ℕ) → p ≡ head_of k w h → Mapped p (f p) out out'
        → Answered said (tabulated (head_of k w h) (f (head_of k w h))) out out' (Ok tt)
    answered-accepted f p out' e g =
        record {
          answer = sym a;
          bytes =
              mapped-bytes (head_of k w h) (f (head_of k w h)) out out' plates.room (subst (λ (p : Head). Mapped p (f p) out out') e g)
              ∙ ap (λ (u : Verdict). written u (tabulated (head_of k w h) (f (head_of k w h))) out) (sym a);
        }

    -- the map that an accepted call wrote
    pub accepted-mapped : (f : Head → Cell → ℕ) (p : Head) (out' : List ℕ) (v : Verdict) → p ≡ head_of k w h
        → Answered said (tabulated (head_of k w h) (f (head_of k w h))) out out' v → Mapped p (f p) out out'
    accepted-mapped f p out' v e g =
        subst (λ (p : Head). Mapped p (f p) out out') (sym e)
        (subst (Mapped (head_of k w h) (f (head_of k w h)) out)
        (sym (g.bytes ∙ ap (λ (u : Verdict). written u (tabulated (head_of k w h) (f (head_of k w h))) out) a))
        (bytes-mapped (head_of k w h) (f (head_of k w h)) out plates.room))
