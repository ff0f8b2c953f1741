-- What the drawn relief gives: its volume, and whether the file is tidy.
use Rattle.std.specs.Prelude.{Ok, Err, is_ok}
use mathlib.Core.Path.{◌≡◌, refl, sym, ap, ◌∙◌}
use mathlib.Core.Bool.{Bool, true, false, not}
use mathlib.Core.List.{List, [], ◌∷◌, ◌++◌}
use Prim.Native.Nat.{ℕ, ◌*◌, ◌≤◌, min}
use native.Mathlib.Omega.{arith}
use native.Mathlib.Nat.{mul-le-mul}
use borrow.Author.Tests.{le-leb}
use lib.ListN.{length, take, drop, length-append, length-drop}
use lib.Seq.{take_at, drop_at, take-length}
use Rattle.geometry.specs.declared.Head.{Head}
use Rattle.geometry.specs.Lists.{sum, common}
use Rattle.geometry.specs.Plate.{area}
use Rattle.theory.specs.Erosion.{volume}
use Rattle.theory.specs.Listing.{drawn}
use Rattle.theory.proofs.Plate.{length-tabulated}
use Rattle.theory.proofs.Residues.{volume-take}
use Rattle.refusal.specs.declared.Refusal.{Refusal}
use Rattle.refusal.specs.Refusals.{trial, first_met, side_trials, head_of, written, bad_sides, largest_side}
use Rattle.refusal.proofs.Refusals.{gives_none}
use Rattle.erosion_maps.specs.Calls.{volume_answer, volume_of}
use Rattle.reading.specs.declared.Job.{Job}
use Rattle.reading.specs.Reading.{IsReadable, head_in, plunges_in}
use Rattle.reading.specs.Steps.{JobOf}
use Rattle.reading.proofs.Readable.{readable-sound}
use Rattle.jobs.specs.Calls.{relief, draw_verdict, Drawn, tidied}
use Rattle.job_check.specs.Checking.{check_verdict, CheckCall}
use Rattle.jobs.proofs.Calls.{no-fault, long-one, long-three}
use Rattle.job_relief.specs.Relief.{volume_in, is_tidy}
use Rattle.job_relief.specs.Relief.{WorkedOn}
use Rattle.job_relief.specs.Works.{Workable, WorkKept}
use Rattle.refusal.specs.Refusals.{Verdict}

-- ---- the volume

length-relief : (f : List ℕ) → length (relief f) ≡ area (head_in f)
length-relief f = length-tabulated (head_in f) (drawn (head_in f).kind (plunges_in f))

sides-right : (w h : ℕ) → 1 ≤ w → w ≤ largest_side → 1 ≤ h → h ≤ largest_side → bad_sides w h ≡ false
sides-right w h a b c d = rw (le-leb 1 w a, le-leb w largest_side b, le-leb 1 h c, le-leb h largest_side d)

module _ (f out : List ℕ) (ok : IsReadable f) (long : area (head_in f) ≤ length out) where
  drawn-accepted : draw_verdict f out ≡ Ok tt
  drawn-accepted = no-fault f (length out ∷ []) [] ok (long-one (head_in f).width (head_in f).height (length out) long)

  module _ (out' : List ℕ) (v : Verdict) (d : Drawn f out out' v) where
    drawn-out : out' ≡ relief f ++ drop (length (relief f)) out
    drawn-out = d.bytes ∙ ap (λ (u : Verdict). written u (relief f) out) drawn-accepted

    drawn-length : length out' ≡ length out
    drawn-length = ap length drawn-out ∙ length-append (relief f) (drop (length (relief f)) out)
        ∙ omega (arith, length-drop (length (relief f)) out, length-relief f, long)

    pub drawn-kept : WorkKept f out out'
    drawn-kept = record {
      same = drawn-length;
      surplus = ap (drop (area (head_in f))) drawn-out ∙ drop_at (relief f) (drop (length (relief f)) out) (area (head_in f)) (length-relief f)
          ∙ ap (λ (n : ℕ). drop n out) (length-relief f);
    }

    drawn-take : take (area (head_in f)) out' ≡ relief f
    drawn-take = ap (take (area (head_in f))) drawn-out ∙ take_at (relief f) (drop (length (relief f)) out) (area (head_in f)) (length-relief f)

    relief-take : take (area (head_in f)) (relief f) ≡ relief f
    relief-take = ap (λ (n : ℕ). take n (relief f)) (sym (length-relief f)) ∙ take-length (relief f)

    -- the kind that the volume's call names changes no depth
    same-volume : volume (head_of 4 (head_in f).width (head_in f).height) out' ≡ volume_in f
    same-volume =
        volume-take (head_of 4 (head_in f).width (head_in f).height) out' (omega (arith, drawn-length, long))
        ∙ ap sum (drawn-take ∙ sym relief-take)
        ∙ sym (volume-take (head_in f) (relief f) (omega (arith, length-relief f)))

    volume-accepted : first_met (side_trials (head_in f).width (head_in f).height false (length out' ∷ [])) ≡ Ok tt
    volume-accepted =
        let s = (readable-sound f ok).sides in
        sym (gives_none (head_in f).width (head_in f).height false (length out')
        (sides-right (head_in f).width (head_in f).height s.wide s.narrow s.tall s.low) refl (omega (arith, drawn-length, long)))

    volume-is : volume_of out' (head_in f).width (head_in f).height ≡ Ok (volume_in f)
    volume-is = ap (λ (u : Verdict). volume_answer u (volume (head_of 4 (head_in f).width (head_in f).height) out')) volume-accepted ∙ ap Ok same-volume

    -- under the head that reading gave
    volume-of-head : (h : Head) → h ≡ head_in f → volume_of out' h.width h.height ≡ Ok (volume_in f)
    volume-of-head h e = ap (λ (p : Head). volume_of out' p.width p.height) e ∙ volume-is

    pub volume-given : (h : Head) (n : ℕ) → h ≡ head_in f → Ok n ≡ volume_of out' h.width h.height → n ≡ volume_in f
    volume-given h n e g = let z : Ok n ≡ Ok (volume_in f) = g ∙ volume-of-head h e in cc

    pub volume-refused : (h : Head) (r : Refusal) → h ≡ head_in f → Err r ≡ volume_of out' h.width h.height → ⊥
    volume-refused h r e g = let y : Err r ≡ Ok (volume_in f) = g ∙ volume-of-head h e in let z : ◌≡◌ {A = ℕ} 0 1 = cc in omega arith

-- ---- the tidy check

module _ (f a b c : List ℕ) (ok : IsReadable f) (x : area (head_in f) ≤ length a) (y : area (head_in f) ≤ length b) (z : area (head_in f) ≤ length c) where
  checked : check_verdict f a b c ≡ first_met (trial (not (is_tidy f)) 12 (common f (tidied f)) ∷ [])
  checked = no-fault f (length a ∷ length b ∷ length c ∷ []) (trial (not (is_tidy f)) 12 (common f (tidied f)) ∷ []) ok
      (long-three (head_in f).width (head_in f).height (length a) (length b) (length c) (min (min (length a) (length b)) (length c)) refl (omega arith))

  pub tidy-told : (v : Verdict) → v ≡ check_verdict f a b c → is_ok v ≡ is_tidy f
  tidy-told v e = ap is_ok (e ∙ checked) ∙ go (is_tidy f)
    where
      go : (t : Bool) → is_ok (first_met (trial (not t) 12 (common f (tidied f)) ∷ [])) ≡ t
      go true = refl
      go false = refl

-- ---- the work buffers

pub checked-work : (f a a' b b' c c' : List ℕ) (v : Verdict) → CheckCall f a a' b b' c c' v → WorkedOn f a a' b b' c c'
checked-work f a a' b b' c c' v w = record { first = w.first.surplus; second = w.second.surplus; third = w.third.surplus }

-- the third is drawn into first
pub drawn-first : (f a a' b b' c d c' : List ℕ) → WorkKept f c d → WorkedOn f a a' b b' d c' → WorkedOn f a a' b b' c c'
drawn-first f a a' b b' c d c' k w = record { first = w.first; second = w.second; third = w.third ∙ k.surplus }

-- buffers for the largest plate hold every plate
pub workable : (f : List ℕ) (j : Job) (a b c : List ℕ) → JobOf f j → largest_side * largest_side ≤ length a → largest_side * largest_side ≤ length b
    → largest_side * largest_side ≤ length c → Workable f j a b c
workable f j a b c w x y z =
    let s = (readable-sound f w.readable).sides in
    let small : area (head_in f) ≤ largest_side * largest_side = mul-le-mul s.low s.narrow in
    record { job = w; first = omega (arith, small); second = omega (arith, small); third = omega (arith, small) }
