-- What the tidy check leaves, refused and done: its verdict by the tests that were made, its buffers by what was done.
use Rattle.std.specs.Prelude.{Err}
use mathlib.Core.Path.{◌≡◌, refl, sym, ap, ◌∙◌, subst}
use mathlib.Core.Bool.{Bool, true, false, not}
use mathlib.Core.List.{List, [], ◌∷◌}
use Prim.Native.Nat.{ℕ, ◌≤◌, ◌<◌, min}
use native.Mathlib.Omega.{arith}
use lib.ListN.{length, get_or}
use Rattle.geometry.specs.declared.Head.{Head}
use Rattle.geometry.specs.Plate.{area}
use Rattle.theory.specs.Listing.{drawn}
use Rattle.refusal.specs.declared.Refusal.{Refusal}
use Rattle.refusal.specs.Refusals.{trial, first_met, free}
use Rattle.buffers.specs.Fill.{Mapped, PlateOnly}
use Rattle.reading.specs.Reading.{file_trials, head_in, plunges_up_to}
use Rattle.reading.specs.declared.Job.{Job}
use Rattle.reading.proofs.Answers.{file-fault}
use Rattle.geometry.specs.Lists.{common}
use Rattle.jobs.specs.Calls.{tidied}
use Rattle.reading.specs.Steps.{JobOf}
use Rattle.jobs.proofs.Calls.{short-three, plate-fault, no-fault, worked-none, worked-free, kept-mapped, drawn-lists, short-of, works-long}
use Rattle.job_check.specs.Checking.{alike, check_verdict, CheckCall}
use Rattle.job_check.specs.Comparing.{Comparable, Compared}
use Rattle.refusal.specs.Refusals.{Verdict}

check-refused : (f : List ℕ) (q : Refusal) (a b c : List ℕ) → check_verdict f a b c ≡ Err q → CheckCall f a a b b c c (Err q)
check-refused f q a b c e =
    record {
      answer = sym e;
      first = worked-none (check_verdict f a b c) (area (head_in f)) a;
      second = worked-none (check_verdict f a b c) (area (head_in f)) b;
      third = worked-none (check_verdict f a b c) (area (head_in f)) c;
    }

pub check-fault : (f : List ℕ) (q : Refusal) (a b c : List ℕ) → first_met (file_trials f) ≡ Err q → CheckCall f a a b b c c (Err q)
check-fault f q a b c e = check-refused f q a b c (file-fault f _ q e)

-- of a file that was read, with n the shortest of the work buffers
module _ (f : List ℕ) (j : Job) (w : JobOf f j) (a b c : List ℕ) (n : ℕ) (e : n ≡ min (min (length a) (length b)) (length c)) where
  abbrev works : List ℕ
  works = length a ∷ length b ∷ length c ∷ []

  pub check-short : (q : Refusal) → q ≡ record { number = 4; place = 0 } → n < area j.head → CheckCall f a a b b c c (Err q)
  check-short q g l = check-refused f q a b c
      (plate-fault f works _ w.readable (short-of f j w works (short-three j.head.width j.head.height (length a) (length b) (length c) n e l))
      ∙ sym (ap Err g))

  pub check-asks : area j.head ≤ n → ((i : ℕ) → get_or f i 0 < 256) → (c' : List ℕ)
      → Mapped j.head (drawn j.head.kind (plunges_up_to j.plunges f)) c c' → Comparable j.head j.plunges f c' a b
  check-asks l bs c' m =
      record {
        readable = w.readable;
        bytes = bs;
        head = w.head;
        count = w.plunges;
        lists = drawn-lists f j.head j.plunges c c' w.head w.plunges m;
        relief = omega (arith, m.same);
        first = omega arith;
        second = omega arith;
      }

  pub check_done : area j.head ≤ n → (a' b' c' : List ℕ) (r : Verdict) → Mapped j.head (drawn j.head.kind (plunges_up_to j.plunges f)) c c'
      → Compared f r → PlateOnly j.head a a' → PlateOnly j.head b b' → CheckCall f a a' b b' c c' r
  check_done l a' b' c' r m d x y =
      record {
        answer = d ∙ sym verdict;
        first = worked-free v (head_in f) a a' freed (moved a a' x);
        second = worked-free v (head_in f) b b' freed (moved b b' y);
        third = worked-free v (head_in f) c c' freed (moved c c' (kept-mapped j.head _ c c' m));
      }
    where
      v : Verdict
      v = check_verdict f a b c

      verdict : v ≡ first_met (trial (not (alike f (tidied f))) 12 (common f (tidied f)) ∷ [])
      verdict = no-fault f works _ w.readable (works-long f j w [] a b c n e l)

      freed : free v ≡ true
      freed = ap free verdict ∙ go (alike f (tidied f))
        where
          go : (t : Bool) → free (first_met (trial (not t) 12 (common f (tidied f)) ∷ [])) ≡ true
          go true = refl
          go false = refl

      moved : (s s' : List ℕ) → PlateOnly j.head s s' → PlateOnly (head_in f) s s'
      moved s s' = subst (λ (h : Head). PlateOnly h s s') w.head
