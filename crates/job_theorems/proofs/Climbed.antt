-- N5: the rungs climbed, as the calls list and tidy answer them, and the list in the bytes that they leave.
use mathlib.Core.Path.{◌≡◌, sym, ap, ◌∙◌, subst}
use mathlib.Core.List.{List}
use Prim.Native.Nat.{ℕ, ◌*◌, ◌≤◌, min}
use native.Mathlib.Omega.{arith}
use Rattle.geometry.specs.declared.Head.{Head}
use Rattle.geometry.specs.declared.Plunge.{Plunge}
use Rattle.theory.specs.Climbed.{erosion_count}
use Rattle.theory.specs.Listing.{listing}
use Rattle.theory.proofs.Climbed.{count-is, count-bound, count_none, count_under, count-met}
use Rattle.refusal.specs.Refusals.{head_of, largest_erosion}
use Rattle.reading.specs.Reading.{head_in, plunges_in}
use Rattle.reading.proofs.Readable.{encoded-plunges}
use Rattle.jobs.specs.Calls.{relief, listed, tidied_plunges}
use Rattle.job_theorems.specs.Canonical.{Tidying, file}
use Rattle.job_theorems.specs.Restored.{Listing, listed_file}
use Rattle.job_theorems.specs.Climbed.{erosions_of, Climbed}
use Rattle.job_theorems.proofs.Answers.{given-erosions}
use Rattle.job_theorems.proofs.Canonical as tidying
use Rattle.job_theorems.proofs.Restored as listing-call

-- of a relief and its listing
climbed : (p : Head) (m : List ℕ) → min p.width p.height ≤ 2 * largest_erosion → Climbed p m (listing p largest_erosion m) (erosion_count p m)
climbed p m sides =
    record {
      smallest = count-is p m;
      bound = count-bound p m;
      none = count_none p m;
      under = count_under p m largest_erosion;
      met = count-met p m largest_erosion sides;
    }

-- of a call's answer and the plunges in the bytes that it left
answered : (p : Head) (m F : List ℕ) (n : ℕ) → min p.width p.height ≤ 2 * largest_erosion → plunges_in F ≡ listing p largest_erosion m
    → n ≡ erosion_count p m → Climbed p m (plunges_in F) n
answered p m F n sides e c =
    subst (λ (qs : List Plunge). Climbed p m qs n) (sym e) (subst (Climbed p m (listing p largest_erosion m)) (sym c) (climbed p m sides))

pub list-climbed : {m : List ℕ} {k w h : ℕ} (s : Listing m k w h) → Climbed (head_of k w h) m (plunges_in (listed_file s)) (erosions_of s.answer)
list-climbed {m} {k} {w} {h} s =
    answered (head_of k w h) m (listed_file s) _ (omega (arith, (listing-call.sides m k w h s).narrow))
    (ap plunges_in (listing-call.file-is m k w h s) ∙ encoded-plunges (head_of k w h) (listed m k w h))
    (given-erosions (head_of k w h) (listed m k w h) s.out s.out' s.answer _ (listing-call.accepts m k w h s) _ s.call.answer s.call.bytes)

pub tidy-climbed : {f : List ℕ} (t : Tidying f) → Climbed (head_in f) (relief f) (plunges_in (file t)) (erosions_of t.answer)
tidy-climbed {f} t =
    answered (head_in f) (relief f) (file t) _ (tidying.sides f t.readable)
    (ap plunges_in (tidying.file-is f t) ∙ encoded-plunges (head_in f) (tidied_plunges f))
    (given-erosions (head_in f) (tidied_plunges f) t.out t.out' t.answer _ (tidying.accepts f t) _ t.call.list.answer t.call.list.bytes)
