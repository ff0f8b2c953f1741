-- Laws of passes: over nothing, what each kind does with bytes, and bytes after bytes.
use mathlib.Core.Path.{◌≡◌, refl, sym, ap, ◌∙◌, subst}
use mathlib.Core.Bool.{Bool, true, false}
use mathlib.Core.List.{List, [], ◌++◌}
use Prim.Native.Nat.{ℕ, ◌+◌, ◌≤◌, ◌<◌}
use native.Mathlib.Omega.{arith}
use native.Mathlib.Nat.{add-zero}
use borrow.Author.Tests.{eq-eqb, ne_eqb, eqb-true, eqb-false}
use lib.Dec.{eqb}
use lib.ListN.{length, drop, length-append}
use lib.Seq.{drop-drop}
use Rattle.geometry.specs.Lists.{common}
use Rattle.fields.specs.Writing.{spliced}
use Rattle.fields.proofs.Splice.{splice-nil, splice-length, splice-splice}
use Rattle.listing_pass.specs.declared.Pass.{Pass}
use Rattle.listing_pass.specs.declared.Pass.TheVariants.{Write, Compare, Stage}
use Rattle.listing_pass.specs.declared.Progress.{Progress}
use Rattle.listing_pass.specs.Sent.{reached, Staged, Passed, Sent, Room}
use Rattle.listing_pass.proofs.Common.{common-le, common-on, common-off}

-- ---- bytes

pub sent-none : (pass : Pass) (file : List ℕ) (at : ℕ) (old : List ℕ) → Sent pass file at [] old old (record { at = at; like = true })
sent-none Write file at old = record { place = sym (add-zero at); like = refl; bytes = sym (splice-nil old at) }
sent-none Compare file at old = record { place = sym (add-zero at); like = refl; bytes = refl }
sent-none Stage file at old = record { place = sym (add-zero at); like = refl; bytes = (refl, λ h. sym (splice-nil old at)) }

eqb_same : (n : ℕ) → eqb n n ≡ true
eqb_same n = eq-eqb n n refl

eqb-add : (n a b : ℕ) → eqb (n + a) (n + b) ≡ eqb a b
eqb-add n a b = go (eqb a b) refl
  where
    go : (t : Bool) → eqb a b ≡ t → eqb (n + a) (n + b) ≡ eqb a b
    go true e = eq-eqb (n + a) (n + b) (ap (λ (k : ℕ). n + k) (eqb-true a b e)) ∙ sym e
    go false e = ne_eqb (n + a) (n + b) (λ g. eqb-false a b e (omega arith)) ∙ sym e

-- what each kind of pass does with bytes
module _ (pass : Pass) (file : List ℕ) (at : ℕ) (bs old new : List ℕ) where
  pub sent-written : pass ≡ Write → new ≡ spliced old at bs → Sent pass file at bs old new (record { at = at + length bs; like = true })
  sent-written e g = subst (λ o. Sent o file at bs old new (record { at = at + length bs; like = true })) (sym e)
      (record { place = refl; like = sym (eqb_same (length bs)); bytes = g })

  pub sent-staged : pass ≡ Stage → Staged old at bs new → Sent pass file at bs old new (record { at = at + length bs; like = true })
  sent-staged e g = subst (λ o. Sent o file at bs old new (record { at = at + length bs; like = true })) (sym e)
      (record { place = refl; like = sym (eqb_same (length bs)); bytes = g })

module _ (pass : Pass) (file : List ℕ) (at : ℕ) (bs old new : List ℕ) (r : Progress) (s : Sent pass file at bs old new r) where
  -- a pass that went over all
  pub sent-all : r.like ≡ true → r.at ≡ at + length bs
  sent-all e = s.place ∙ ap (λ (n : ℕ). at + n) (eqb-true (reached pass file at bs) (length bs) (sym s.like ∙ e))

  -- the output keeps its length
  pub sent-same : Room pass (at + length bs) old → length new ≡ length old
  sent-same h = go pass h s.bytes
    where
      go : (o : Pass) → Room o (at + length bs) old → Passed o old at bs new → length new ≡ length old
      go Write g b = ap length b ∙ splice-length old at bs (g refl)
      go Compare g b = ap length b
      go Stage g b = b.0

-- bytes, and then more of them
pub sent-more : (pass : Pass) (file : List ℕ) (at : ℕ) (bs cs old mid new : List ℕ) (r s : Progress) → Room pass (at + length bs) old
    → Sent pass file at bs old mid r → r.like ≡ true → Sent pass file r.at cs mid new s → Sent pass file at (bs ++ cs) old new s
sent-more Write file at bs cs old mid new r s h a e b =
    record {
      place = omega (arith, b.place, a.place, length-append bs cs);
      like = b.like ∙ eqb_same (length cs) ∙ sym (eqb_same (length (bs ++ cs)));
      bytes = b.bytes ∙ ap (λ (n : ℕ). spliced mid n cs) a.place ∙ ap (λ l. spliced l (at + length bs) cs) a.bytes ∙ splice-splice old at bs cs (h refl);
    }
sent-more Stage file at bs cs old mid new r s h a e b =
    record {
      place = omega (arith, b.place, a.place, length-append bs cs);
      like = b.like ∙ eqb_same (length cs) ∙ sym (eqb_same (length (bs ++ cs)));
      bytes = (b.bytes.0 ∙ a.bytes.0, both);
    }
  where
    both : at + length (bs ++ cs) ≤ length old → new ≡ spliced old at (bs ++ cs)
    both l =
        let f : at + length bs ≤ length old = omega (arith, length-append bs cs) in
        b.bytes.1 (omega (arith, a.place, a.bytes.0, length-append bs cs))
        ∙ ap (λ (n : ℕ). spliced mid n cs) a.place ∙ ap (λ (o : List ℕ). spliced o (at + length bs) cs) (a.bytes.1 f) ∙ splice-splice old at bs cs f
sent-more Compare file at bs cs old mid new r s h a e b =
    record {
      place = omega (arith, b.place, all, whole);
      like = b.like ∙ sym (eqb-add (length bs) (common (drop r.at file) cs) (length cs)) ∙ ap (λ (n : ℕ). eqb n (length bs + length cs))
          (sym whole) ∙ ap (eqb (common (drop at file) (bs ++ cs))) (sym (length-append bs cs));
      bytes = b.bytes ∙ a.bytes;
    }
  where
    all : r.at ≡ at + length bs
    all = sent-all Compare file at bs old mid r a e

    whole : common (drop at file) (bs ++ cs) ≡ length bs + common (drop r.at file) cs
    whole =
        common-on (drop at file) bs cs (eqb-true _ _ (sym a.like ∙ e))
        ∙ ap (λ l. length bs + common l cs) (drop-drop (length bs) at file ∙ ap (λ (n : ℕ). drop n file) (sym all))

-- a pass that stopped is one over more bytes too
pub sent-stops : (pass : Pass) (file : List ℕ) (at : ℕ) (bs cs old new : List ℕ) (r : Progress) → Sent pass file at bs old new r → r.like ≡ false
    → Sent pass file at (bs ++ cs) old new r
sent-stops Write file at bs cs old new r a e = absurd (eqb-false (length bs) (length bs) (sym a.like ∙ e) refl)
sent-stops Stage file at bs cs old new r a e = absurd (eqb-false (length bs) (length bs) (sym a.like ∙ e) refl)
sent-stops Compare file at bs cs old new r a e =
    record {
      place = a.place ∙ ap (λ (n : ℕ). at + n) (sym same);
      like = e ∙ sym (ne_eqb (common (drop at file) (bs ++ cs)) (length (bs ++ cs)) (λ g. omega (arith, same, short, length-append bs cs)));
      bytes = a.bytes;
    }
  where
    short : common (drop at file) bs < length bs
    short = let d = eqb-false (common (drop at file) bs) (length bs) (sym a.like ∙ e) in omega (arith, common-le (drop at file) bs, d)

    same : common (drop at file) (bs ++ cs) ≡ common (drop at file) bs
    same = common-off (drop at file) bs cs short
