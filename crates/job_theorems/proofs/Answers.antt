-- What the calls answer with buffers long enough: nothing is refused, and the answer's bytes are the file of the list.
use Rattle.std.specs.Prelude.{Ok, Result}
use mathlib.Core.Path.{◌≡◌, sym, ap, ap₂, ◌∙◌}
use mathlib.Core.List.{List, [], ◌∷◌, ◌++◌}
use Prim.Native.Nat.{ℕ, ◌≤◌}
use native.Mathlib.Omega.{arith}
use borrow.Author.Tests.{le-ltb}
use lib.ListN.{length, take, drop}
use lib.Seq.{take_at}
use Rattle.geometry.specs.declared.Head.{Head}
use Rattle.geometry.specs.declared.Plunge.{Plunge}
use Rattle.geometry.specs.Plate.{area}
use Rattle.theory.specs.Listing.{listing}
use Rattle.theory.proofs.Plunges.{fits_plate-iff}
use Rattle.theory.proofs.Listing.{listed-fits}
use Rattle.refusal.specs.Refusals.{Trial, trial, first_met, short, largest_erosion, written}
use Rattle.refusal.specs.Sides.{Sides}
use Rattle.fields.specs.Fields.{encoded, file_length}
use Rattle.fields.proofs.Encoding.{encoded-length}
use Rattle.reading.specs.Reading.{IsReadable, file_trials, head_in, plunges_in}
use Rattle.refusal.proofs.Trials.{and_then, first-append}
use Rattle.reading.proofs.Readable.{Writable, encoded-plunges}
use Rattle.listing_plunges.proofs.Plunges.{listing-few}
use Rattle.listing.specs.Answers.{list_answer}
use Rattle.jobs.specs.Calls.{tidied_plunges, work_trial, room_for, tidy_verdict}
use Rattle.jobs.proofs.Calls.{long-three}
use Rattle.job_theorems.specs.Canonical.{NoneMet, bytes_of, Lists}
use Rattle.job_theorems.specs.Climbed.{erosions_of}
use Rattle.refusal.specs.Refusals.{Verdict}
use Rattle.listing.specs.declared.Extent.{Extent}
use Rattle.refusal.specs.declared.Refusal.{Refusal}

-- trials of which none is met leave the word to those behind them
pub after : (ts us : List Trial) → NoneMet ts → first_met (ts ++ us) ≡ first_met us
after ts us e = first-append ts us ∙ ap (λ (v : Verdict). and_then v (first_met us)) e

pub tidy-accepts : (f out a b c : List ℕ) → IsReadable f → NoneMet (work_trial f a b c ∷ []) → NoneMet (room_for (head_in f) (tidied_plunges f) out)
    → tidy_verdict f out a b c ≡ Ok tt
tidy-accepts f out a b c ok works room =
    after (file_trials f) _ ok ∙ after (work_trial f a b c ∷ []) (room_for (head_in f) (tidied_plunges f) out) works ∙ room

-- an accepted call that answers with a list
module _ (p : Head) (qs : List Plunge) (out out' : List ℕ) (r : Result Extent Refusal) (v : Verdict) (accepts : v ≡ Ok tt)
    (n : ℕ) (answer : r ≡ list_answer v p qs n) (bytes : out' ≡ written v (encoded p qs) out) where
  answered : r ≡ Ok (record { bytes = file_length p (length qs); plunges = length qs; erosions = n })
  answered = answer ∙ ap (λ (u : Verdict). list_answer u p qs n) accepts

  -- its count is the one that was made
  pub given-erosions : erosions_of r ≡ n
  given-erosions = ap erosions_of answered

  -- the bytes of the answer alone are the list's file
  pub given-file : take (bytes_of r) out' ≡ encoded p qs
  given-file =
      ap₂ (λ (n : ℕ) (l : List ℕ). take n l) (ap bytes_of answered) (bytes ∙ ap (λ (u : Verdict). written u (encoded p qs) out) accepts)
      ∙ take_at (encoded p qs) (drop (length (encoded p qs)) out) (file_length p (length qs)) (encoded-length p qs)

  pub given-lists : Lists r (take (bytes_of r) out')
  given-lists = (n, answered ∙ (λ i. Ok (record { bytes = long i; plunges = many i; erosions = n })))
    where
      long : file_length p (length qs) ≡ length (take (bytes_of r) out')
      long = sym (ap length given-file ∙ encoded-length p qs)

      many : length qs ≡ length (plunges_in (take (bytes_of r) out'))
      many = sym (ap (λ (l : List ℕ). length (plunges_in l)) given-file ∙ ap length (encoded-plunges p qs))

-- a listing is one that a readable file can hold
pub listing-writable : (p : Head) (m : List ℕ) → Sides p → Writable p (listing p largest_erosion m)
listing-writable p m sides = record {
  sides = sides;
  few = listing-few p m sides;
  right = λ q i. let h = listed-fits p largest_erosion m q i in ((fits_plate-iff p q).1 h.wholly, h.some);
}

-- buffers of just the length needed are long enough
pub long-works : (p : Head) (n : ℕ) → n ≡ area p → first_met (trial (short p.width p.height (n ∷ n ∷ n ∷ [])) 4 0 ∷ []) ≡ Ok tt
long-works p n e = rw (long-three p.width p.height n n n n (omega arith) (omega arith))

pub exact-room : (p : Head) (qs : List Plunge) → NoneMet (room_for p qs (encoded p qs))
exact-room p qs =
    let l : file_length p (length qs) ≤ length (encoded p qs) = omega (arith, encoded-length p qs) in
    rw (le-ltb (length (encoded p qs)) (file_length p (length qs)) l)
