-- Laws of a whole listing: what was sent so far, one run more, and where it ends.
use mathlib.Core.Path.{◌≡◌, refl, sym, ap, ◌∙◌, subst}
use mathlib.Core.Bool.{true, false}
use mathlib.Core.List.{List, ◌++◌}
use Prim.Native.Nat.{ℕ, ◌+◌, ◌*◌, ◌≤◌}
use native.Mathlib.Omega.{arith}
use lib.ListN.{length, length-append}
use Rattle.geometry.specs.declared.Head.{Head}
use Rattle.geometry.specs.declared.Plunge.{Plunge}
use Rattle.geometry.specs.declared.Size.{Size}
use Rattle.geometry.specs.Sizes.{size_of}
use Rattle.theory.specs.Listing.{listing}
use Rattle.refusal.specs.Refusals.{largest_erosion}
use Rattle.buffers.specs.Fill.{PlateOnly}
use Rattle.erosion_series.proofs.Pairs.{kept_more}
use Rattle.fields.specs.Lengths.{IsLength}
use Rattle.fields.specs.Fields.{plunge_fields, plunge_bytes, place}
use Rattle.fields.proofs.Encoding.{plunge_fields-append, field-few, place-fields, place-small}
use Rattle.residue_marks.specs.Marks.{mark_places}
use Rattle.climb.specs.declared.Climb.{Climb}
use Rattle.climb.specs.declared.Step.{Step}
use Rattle.climb.specs.Climbs.{found_plunges, Climbing, StepOf, Stepped}
use Rattle.climb.proofs.Climbs.{climbing-end, climbing-rest}
use Rattle.listing_pass.specs.declared.Pass.{Pass}
use Rattle.listing_pass.specs.declared.Progress.{Progress}
use Rattle.listing_pass.specs.Sent.{Sent, Room}
use Rattle.listing_pass.proofs.Passes.{sent-all, sent-same, sent-more, sent-stops}
use Rattle.listing_plunges.specs.declared.Sending.{Sending}
use Rattle.listing_plunges.specs.Runs.{ToSend}
use Rattle.listing_plunges.proofs.Plunges.{listing-few}

-- what a climb has listed is sent
pub record Listed (pass : Pass) (file : List ℕ) (p : Head) (m old a b : List ℕ) (c : Climb) (new a' b' : List ℕ) (end : ℕ) : Type 0 where
  pub done : List Plunge
  pub climbs : Climbing p m c a' b' done
  pub sent : Sent pass file (place p 0) (plunge_fields (size_of p) done) old new (record { at = end; like = true })
  pub first : PlateOnly p a a'
  pub second : PlateOnly p b b'
  pub same : length new ≡ length old

-- of the plate that the climb knows
pub listed-plate : (pass : Pass) (file m old a b : List ℕ) (c : Climb) (new a' b' : List ℕ) (end : ℕ) (p p' : Head) → p ≡ p'
    → Listed pass file p m old a b c new a' b' end → Listed pass file p' m old a b c new a' b' end
listed-plate pass file m old a b c new a' b' end p p' e = subst (λ (q : Head). Listed pass file q m old a b c new a' b' end) e

module _ (pass : Pass) (file : List ℕ) (p : Head) (m old a b : List ℕ) (c : Climb) (mid a' b' : List ℕ) (end : ℕ)
    (room : Room pass (place p (length (listing p largest_erosion m))) old)
    (l : Listed pass file p m old a b c mid a' b' end) where
  -- at the end the whole listing is sent
  pub listed-end : c.stand.more ≡ false
      → Sent pass file (place p 0) (plunge_fields (size_of p) (listing p largest_erosion m)) old mid (record { at = end; like = true })
  listed-end e =
      subst (λ (qs : List Plunge). Sent pass file (place p 0) (plunge_fields (size_of p) qs) old mid (record { at = end; like = true }))
      (climbing-end p m c a' b' l.done l.climbs e) l.sent

  module _ (a'' b'' marks : List ℕ) (s : Step) (stepped : Stepped c a' a'' b' b'' marks s) where
    of : StepOf p m a' a'' b' b'' s.next (l.done ++ found_plunges s.found marks)
    of = stepped.step p m l.done l.climbs

    after : (cs : List Plunge) × (listing p largest_erosion m ≡ (l.done ++ found_plunges s.found marks) ++ cs)
    after = climbing-rest p m s.next a'' b'' _ of.climbs

    at-end : end ≡ place p 0 + length (plunge_fields (size_of p) l.done)
    at-end = sent-all pass file (place p 0) _ old mid _ l.sent refl

    few : length l.done + length (found_plunges s.found marks) ≤ length (listing p largest_erosion m)
    few = omega (
      arith,
      ap length after.1,
      length-append (l.done ++ found_plunges s.found marks) after.0,
      length-append l.done (found_plunges s.found marks),
    )

    -- the run ends where the listing still has room, and where a length can be
    run_end : end + length (plunge_fields (size_of p) (found_plunges s.found marks)) ≤ place p (length (listing p largest_erosion m))
    run_end =
        omega (
          arith,
          at-end,
          place-fields p (l.done ++ found_plunges s.found marks) (length (listing p largest_erosion m))
              (omega (arith, few, length-append l.done (found_plunges s.found marks))),
          ap length (plunge_fields-append (size_of p) l.done (found_plunges s.found marks)),
          length-append (plunge_fields (size_of p) l.done) (plunge_fields (size_of p) (found_plunges s.found marks)),
        )

    small : place p (length (listing p largest_erosion m)) ≤ 8 + 10 * 4294967296
    small = place-small p (length (listing p largest_erosion m)) {k = 4294967296} (omega (arith, listing-few p m l.climbs.sides))

    -- what sending the run asks
    pub listed-asks : (t : Sending) → t.pass ≡ pass → t.size ≡ size_of p → ToSend t s.found marks end mid
    listed-asks t is z =
        record {
          marked = stepped.marked;
          place = subst (λ (u : Size). IsLength (end + plunge_bytes u * mark_places)) (sym z)
              (omega (arith, run_end, small, field-few (size_of p)));
          room = subst (λ (u : Size). Room t.pass (end + length (plunge_fields u (found_plunges s.found marks))) mid) (sym z)
              (λ e. omega (arith, room (sym is ∙ e), run_end, l.same));
        }

    module _ (new : List ℕ) (t : Progress) (size : Size) (z : size ≡ size_of p)
        (run : Sent pass file end (plunge_fields size (found_plunges s.found marks)) mid new t) where
      sent : Sent pass file end (plunge_fields (size_of p) (found_plunges s.found marks)) mid new t
      sent = subst (λ (u : Size). Sent pass file end (plunge_fields u (found_plunges s.found marks)) mid new t) z run

      both : Sent pass file (place p 0) (plunge_fields (size_of p) (l.done ++ found_plunges s.found marks)) old new t
      both =
          subst (λ (o : List ℕ). Sent pass file (place p 0) o old new t) (sym (plunge_fields-append (size_of p) l.done _))
          (sent-more pass file (place p 0) (plunge_fields (size_of p) l.done) _ old mid new _ t
          (λ e. omega (arith, room e, at-end, run_end)) l.sent refl sent)

      same : length new ≡ length mid
      same = sent-same pass file end _ mid new t sent (λ e. omega (arith, room e, run_end, l.same))

      -- one run more
      pub listed_more : t.like ≡ true → Listed pass file p m old a b s.next new a'' b'' t.at
      listed_more e =
          record {
            done = l.done ++ found_plunges s.found marks;
            climbs = of.climbs;
            sent = record { place = both.place; like = sym e ∙ both.like; bytes = both.bytes };
            first = kept_more p a a' a'' l.first of.first;
            second = kept_more p b b' b'' l.second of.second;
            same = same ∙ l.same;
          }

      -- a run that was unlike ends it
      pub listed-stops : t.like ≡ false → Sent pass file (place p 0) (plunge_fields (size_of p) (listing p largest_erosion m)) old new t
      listed-stops e =
          subst (λ (o : List ℕ). Sent pass file (place p 0) o old new t)
          (sym (ap (plunge_fields (size_of p)) after.1 ∙ plunge_fields-append (size_of p) (l.done ++ found_plunges s.found marks) after.0))
          (sent-stops pass file (place p 0) _ (plunge_fields (size_of p) after.0) old new t both e)

      pub listed_kept : (length new ≡ length old) × PlateOnly p a a'' × PlateOnly p b b''
      listed_kept = (same ∙ l.same, kept_more p a a' a'' l.first of.first, kept_more p b b' b'' l.second of.second)
