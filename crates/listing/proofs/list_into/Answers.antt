use Rattle.fields.proofs.Encoding.{place-small}
use Rattle.fields.specs.Fields.{plunge_bytes}
use Rattle.listing_plunges.proofs.Plunges.{listing-few}
use Rattle.erosion_series.proofs.Pairs.{kept_more}
use Rattle.refusal.specs.Refusals.{largest_erosion}
use Rattle.theory.specs.Listing.{listing}
use Rattle.geometry.specs.declared.Size.{Size}
use lib.ListN.{length}
use native.Mathlib.Omega.{arith}
use mathlib.Core.Path.{refl, ap, ◌∙◌}
use Rattle.listing.proofs.Files.{counted-end, counted-whole, counted-kept, plunges-of, answered-short, answered-long, head-same, file-whole}
use Rattle.listing.proofs.list_into.Goals as goal

pub overflow_add-bytes : goal.overflow_add-bytes
overflow_add-bytes c =
    let given = c.args in
    omega (
      arith,
      counted-end given.head given.relief.now (listing given.head largest_erosion given.relief.now) _ _ _
          c.send_listing-counted.ensures.sent,
      place-small given.head (length (listing given.head largest_erosion given.relief.now)) {k = 4294967296}
          (omega (arith, listing-few given.head given.relief.now c.requires.sides)),
    )

pub returns-then-out-bytes : goal.returns-then-out-bytes
returns-then-out-bytes c =
    let given = c.args in (
      answered-short given.head given.relief.now given.out.now _ _
          (omega (
            arith,
            counted-end given.head given.relief.now (listing given.head largest_erosion given.relief.now) _ _ _
                c.send_listing-counted.ensures.sent,
          )) (omega arith) refl,
      c.send_listing-counted.ensures.first,
      c.send_listing-counted.ensures.second,
    )

pub put_plunges-requires : goal.put_plunges-requires
put_plunges-requires c =
    let given = c.args in
    let counted =
    counted-end given.head given.relief.now (listing given.head largest_erosion given.relief.now) _ _ _
    c.send_listing-counted.ensures.sent in
    record {
      listable = record {
        sides = c.requires.sides;
        relief = c.requires.relief;
        first = omega (arith, c.requires.first, c.send_listing-counted.ensures.first.same);
        second = omega (arith, c.requires.second, c.send_listing-counted.ensures.second.same);
      };
      stage = omega (arith, c.send_listing-counted.ensures.sent.bytes.0);
      counted = counted;
      room = omega (
        arith,
        c.if-out-bytes.false,
        head-same given.head given.out.now _ (length (listing given.head largest_erosion given.relief.now))
            (omega (arith, counted, c.if-out-bytes.false)) c.put_head.ensures,
      );
      plunges =
          counted-kept given.head given.relief.now (listing given.head largest_erosion given.relief.now) _ _ _
          c.send_listing-counted.ensures.sent (omega arith);
    }

pub returns : goal.returns
returns c =
    let given = c.args in
    let e =
    counted-end given.head given.relief.now (listing given.head largest_erosion given.relief.now) _ _ _
    c.send_listing-counted.ensures.sent in
    let l = c.if-out-bytes.false in (
      answered-long given.head given.relief.now given.out.now _ _ _ _ (omega (arith, e))
          (plunges-of given.head _ _ _ _ e c.place.ensures
          (c.plunge_bytes.ensures ∙ ap (λ (s : Size). plunge_bytes s) c.size.ensures))
          (c.send_listing-counted.ensures.counted
          (counted-whole given.head given.relief.now (listing given.head largest_erosion given.relief.now) _ _ _
          c.send_listing-counted.ensures.sent))
          (omega (arith, l))
          (file-whole given.head (listing given.head largest_erosion given.relief.now) given.out.now
          (omega (arith, e, l)) _ _ _ _ _ _ refl c.put_head.ensures c.put_plunges.ensures.0 e
          (plunges-of given.head _ _ _ _ e c.place.ensures
          (c.plunge_bytes.ensures ∙ ap (λ (s : Size). plunge_bytes s) c.size.ensures))
          c.put_end.ensures),
      kept_more _ _ _ _ c.send_listing-counted.ensures.first c.put_plunges.ensures.1,
      kept_more _ _ _ _ c.send_listing-counted.ensures.second c.put_plunges.ensures.2,
    )
