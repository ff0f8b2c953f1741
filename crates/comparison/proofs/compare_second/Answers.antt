-- `compare_second` draws the second file and compares what both maps hold.
use native.Mathlib.Omega.{arith}
use mathlib.Core.Path.{◌∙◌, sym, ap, subst}
use Rattle.geometry.specs.Plate.{area}
use Rattle.refusal.specs.Sides.{Sides}
use Rattle.reading.proofs.Readable.{readable-sound}
use Rattle.jobs.specs.Calls.{Drawn}
use Rattle.comparison.specs.Drawings.{plates_compared}
use Rattle.comparison.proofs.Maps.{drawn-holds, holds-head, plates-same, second-done}
use Rattle.comparison.proofs.compare_second.Goals as goal
use Rattle.refusal.specs.Refusals.{Verdict}

pub head_in-requires : goal.head_in-requires
head_in-requires c =
    holds-head c.args.first.now c.args.a.now c.requires

pub head_in-requires-in-Ok : goal.head_in-requires-in-Ok
head_in-requires-in-Ok c =
    let given = c.args in
    let f = given.first.now in
    let g = given.second.now in
    let draw = c.draw in
    let d =
    subst (λ (v : Verdict). Drawn g given.b.now draw.new.out v) c.in-Ok.is
    draw.ensures in
    holds-head g _ (drawn-holds g given.b.now draw.new.out d)

pub compare_plates-requires : goal.compare_plates-requires
compare_plates-requires c =
    let given = c.args in
    let f = given.first.now in
    let g = given.second.now in
    let draw = c.draw in
    let d =
    subst (λ (v : Verdict). Drawn g given.b.now draw.new.out v) c.in-Ok.is
    draw.ensures in
    let y = drawn-holds g given.b.now draw.new.out d in
    let e = c.head_in.ensures in
    let k = c.head_in-in-Ok.ensures in (
      subst Sides (sym e) (readable-sound f c.requires.readable).sides,
      omega (arith, ap area e, c.requires.room),
      omega (arith, ap area k, y.room),
    )

pub returns-in-Ok : goal.returns-in-Ok
returns-in-Ok c =
    let given = c.args in
    let f = given.first.now in
    let g = given.second.now in
    let draw = c.draw in
    let d =
    subst (λ (v : Verdict). Drawn g given.b.now draw.new.out v) c.in-Ok.is
    draw.ensures in
    let y = drawn-holds g given.b.now draw.new.out d in
    let e = c.head_in.ensures in
    let k = c.head_in-in-Ok.ensures in
    second-done f g given.b.now draw.new.out _ d
    (c.compare_plates.ensures ∙ (λ i. plates_compared (e i) (k i) given.a.now draw.new.out) ∙ plates-same f
    g given.a.now draw.new.out c.requires y)
