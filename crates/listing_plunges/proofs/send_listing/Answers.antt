use mathlib.Core.Path.{refl, sym, ◌∙◌}
use mathlib.Core.Bool.{true≢false}
use borrow.Author.Tests.{not-true, not-false}
use Rattle.erosion_series.proofs.Pairs.{kept_more}
use Rattle.climb.proofs.Climbs.{climbing-few}
use Rattle.listing_plunges.proofs.Listings.{listed-plate, listed-asks, listed_more, listed-stops, listed_kept, listed-end}
use Rattle.listing_plunges.proofs.send_listing.Goals as goal

pub send_run-sent-requires : goal.send_run-sent-requires
send_run-sent-requires c = (
  listed-asks _ _ _ _ _ _ _ _ _ _ _ _ c.requires.1
      (listed-plate _ _ _ _ _ _ _ _ _ _ _ _ _ c.begin-climb.ensures.climbs.plate c.loop-climb.invariant.2) _ _ _ _
      c.next-step.ensures _ refl c.size.ensures,
  c.loop-climb.invariant.1,
)

pub returns-then-not-sent : goal.returns-then-not-sent
returns-then-not-sent c =
    let listed = listed-plate _ _ _ _ _ _ _ _ _ _ _ _ _ c.begin-climb.ensures.climbs.plate c.loop-climb.invariant.2 in
    let kept =
    listed_kept _ _ _ _ _ _ _ _ _ _ _ _ c.requires.1 listed _ _ _ _ c.next-step.ensures _ _ _ c.size.ensures
    c.send_run-sent.ensures.0 in
    let unlike = not-true _ c.if-not-sent.true in
    record {
      sent = listed-stops _ _ _ _ _ _ _ _ _ _ _ _ c.requires.1 listed _ _ _ _ c.next-step.ensures _ _ _ c.size.ensures
          c.send_run-sent.ensures.0 unlike;
      counted = λ like. absurd (true≢false (sym like ∙ unlike));
      first = kept_more _ _ _ _ c.begin-climb.ensures.first kept.1;
      second = kept_more _ _ _ _ c.begin-climb.ensures.second kept.2;
    }

pub loop-climb-smaller : goal.loop-climb-smaller
loop-climb-smaller c =
    c.next-step.ensures.less _ _ _ c.loop-climb.invariant.2.climbs

pub loop-climb-preserved : goal.loop-climb-preserved
loop-climb-preserved c = (
  c.next-step.ensures.marked.size,
  c.send_run-sent.ensures.1,
  listed-plate _ _ _ _ _ _ _ _ _ _ _ _ _ (sym c.begin-climb.ensures.climbs.plate)
      (listed_more _ _ _ _ _ _ _ _ _ _ _ _ c.requires.1
      (listed-plate _ _ _ _ _ _ _ _ _ _ _ _ _ c.begin-climb.ensures.climbs.plate c.loop-climb.invariant.2) _ _ _ _
      c.next-step.ensures _ _ _ c.size.ensures c.send_run-sent.ensures.0 (not-false _ c.if-not-sent.false)),
)

pub erosions_taken-requires : goal.erosions_taken-requires
erosions_taken-requires c = climbing-few _ _ _ _ _ _ c.loop-climb.invariant.2.climbs c.loop-climb-test.false

pub returns : goal.returns
returns c =
    let listed = listed-plate _ _ _ _ _ _ _ _ _ _ _ _ _ c.begin-climb.ensures.climbs.plate c.loop-climb.invariant.2 in
    let at-end = c.loop-climb-test.false in
    record {
      sent = listed-end _ _ _ _ _ _ _ _ _ _ _ _ c.requires.1 listed at-end;
      counted = λ like. c.erosions_taken.ensures ∙ listed.climbs.ended at-end;
      first = kept_more _ _ _ _ c.begin-climb.ensures.first listed.first;
      second = kept_more _ _ _ _ c.begin-climb.ensures.second listed.second;
    }
