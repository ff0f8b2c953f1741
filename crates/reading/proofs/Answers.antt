-- For the calls that read a file first: its faults come before all else, what a readable file's answer says, and where a plunge stands in it.
use Rattle.std.specs.Prelude.{Ok, Err, Some, None}
use mathlib.Core.Path.{◌≡◌, refl, sym, ap, ◌∙◌}
use mathlib.Core.Bool.{Bool, true, false}
use mathlib.Core.List.{List, ◌++◌}
use Prim.Native.Nat.{ℕ, suc, ◌+◌, ◌≤◌, ◌<◌}
use native.Mathlib.Omega.{arith}
use native.Mathlib.Decide.{dec_le}
use borrow.Author.Tests.{le-leb}
use lib.ListN.{length}
use Rattle.geometry.specs.declared.Head.{Head}
use Rattle.geometry.specs.declared.Plunge.{Plunge}
use Rattle.geometry.specs.declared.Size.{Size}
use Rattle.geometry.specs.Sizes.{size_of}
use Rattle.geometry.specs.Forms.{largest_reach}
use Rattle.refusal.specs.declared.Refusal.{Refusal}
use Rattle.refusal.specs.Refusals.{Trial, first_met}
use Rattle.reading.specs.declared.Job.{Job}
use Rattle.reading.specs.Reading.{IsReadable, file_trials, head_in, plunge_at, nth_plunge, total, read_answer, read}
use Rattle.refusal.proofs.Trials.{and_then, first-append, both-accepted}
use Rattle.reading.proofs.Steps.{wide-ball}
use Rattle.reading.proofs.Readable.{readable-sound}
use Rattle.fields.specs.Fields.{plunge_bytes, place}
use Rattle.fields.proofs.Encoding.{place-next, place-le, place-few}
use Rattle.reading.specs.Steps.{JobOf, plunge_if}
use Rattle.refusal.specs.Refusals.{Verdict}

-- ---- the file's faults first

module _ (f : List ℕ) (us : List Trial) where
  pub after-file : IsReadable f → first_met (file_trials f ++ us) ≡ first_met us
  after-file e = first-append (file_trials f) us ∙ ap (λ (v : Verdict). and_then v (first_met us)) e

  pub file-fault : (r : Refusal) → first_met (file_trials f) ≡ Err r → first_met (file_trials f ++ us) ≡ Err r
  file-fault r e = first-append (file_trials f) us ∙ ap (λ (v : Verdict). and_then v (first_met us)) e

  pub file-read : first_met (file_trials f ++ us) ≡ Ok tt → IsReadable f
  file-read e = (both-accepted (first_met (file_trials f)) (first_met us) (sym (first-append (file_trials f) us) ∙ e)).0

-- ---- what reading said

pub read-refused : (v : Verdict) (f : List ℕ) (r : Refusal) → Err r ≡ read_answer v f → v ≡ Err r
read-refused (Ok _) f r e = let z : ◌≡◌ {A = ℕ} 0 1 = cc in absurd (omega arith)
read-refused (Err q) f r e = ap Err cc

pub read-accepted : (f : List ℕ) (j : Job) → Ok j ≡ read f → JobOf f j
read-accepted f j = go (first_met (file_trials f)) refl
  where
    go : (v : Verdict) → first_met (file_trials f) ≡ v → Ok j ≡ read_answer v f → JobOf f j
    go (Ok _) r e = record { readable = r; head = cc; plunges = cc }
    go (Err q) r e = let z : ◌≡◌ {A = ℕ} 0 1 = cc in absurd (omega arith)

-- a file has more bytes than plunges
pub total-few : (f : List ℕ) → IsReadable f → total f + 7 ≤ length f
total-few f ok = omega (arith, (readable-sound f ok).room, place-few (head_in f) (total f))

-- ---- a plunge by its number

-- its field lies in the file, and its reach is one
pub plunge-asks : (f : List ℕ) (i : ℕ) → IsReadable f → i < total f → (place (head_in f) i + plunge_bytes (size_of (head_in f)) ≤ length f)
    × ((nth_plunge f i).reach.0 ≤ largest_reach)
plunge-asks f i ok h = (
  omega (arith, (readable-sound f ok).room, place-next (head_in f) i, place-le (head_in f) (suc-le h)),
  go (dec_le (nth_plunge f i).reach.0 largest_reach),
)
  where
    suc-le : {a b : ℕ} → a < b → suc a ≤ b
    suc-le l = omega arith

    go : Dec ((nth_plunge f i).reach.0 ≤ largest_reach) → (nth_plunge f i).reach.0 ≤ largest_reach
    go (yes l) = l
    go (no l) =
        let s = readable-sound f ok in
        let e : ◌≡◌ {A = Bool} true false = sym (s.fits i h) ∙ wide-ball (head_in f) (nth_plunge f i) s.sides.narrow (omega arith) in
        let z : ◌≡◌ {A = ℕ} 0 1 = cc in
        absurd (omega arith)

-- a field whose reach is one gives its plunge
module _ (s : Size) (f : List ℕ) (at : ℕ) (h : (plunge_at s f at).reach.0 ≤ largest_reach) where
  pub is-plunge : plunge_if s f at ≡ Some (plunge_at s f at)
  is-plunge = rw (le-leb _ _ h)

  pub found-plunge : (q : Plunge) → Some q ≡ plunge_if s f at → q ≡ plunge_at s f at
  found-plunge q e = let z : Some q ≡ Some (plunge_at s f at) = e ∙ is-plunge in cc

  pub no-plunge : {A : Type 0} → None ≡ plunge_if s f at → A
  no-plunge e = let y : None ≡ Some (plunge_at s f at) = e ∙ is-plunge in let z : ◌≡◌ {A = ℕ} 0 1 = cc in absurd (omega arith)

-- the field of plunge number i, by a head, its size and a place that were found
pub nth-field : (f : List ℕ) (i : ℕ) (h : Head) (s : Size) (at : ℕ) → h ≡ head_in f → s ≡ size_of h → at ≡ place h i
    → plunge_if s f at ≡ plunge_if (size_of (head_in f)) f (place (head_in f) i)
nth-field f i h s at e z a = (λ k. plunge_if (z k) f (a k)) ∙ ap (λ (o : Head). plunge_if (size_of o) f (place o i)) e
