use mathlib.Core.Path.{◌∙◌}
use native.Mathlib.Omega.{arith}
use Rattle.row_filter.specs.declared.Leaf.TheVariants as v
use Rattle.row_filter.proofs.InPlace.{done_all}
use Rattle.cross_filter.proofs.Cross.{crossed-to-none, crossed-to-more}
use Rattle.cross_filter.proofs.cross_rows.Goals as goal

pub loop-y-init : goal.loop-y-init
loop-y-init c =
    crossed-to-none c.args.head c.args.edge _ c.requires.0.zeros c.requires.2 c.requires.1.columns
    c.requires.1.rows

pub overflow_add-y : goal.overflow_add-y
overflow_add-y c = omega (arith, c.loop-y.invariant.to.within)

pub cross_row-requires : goal.cross_row-requires
cross_row-requires c =
    let a = c.loop-y.invariant in
    record {
      sides = c.requires.0.sides;
      long = omega (arith, c.requires.0.long, a.to.same);
      edge = c.requires.2;
      columns = c.requires.1.columns;
      here = c.loop-y-test.true;
      size = a.below-margins.size;
    }

pub overflow_add-y-in-loop-y : goal.overflow_add-y-in-loop-y
overflow_add-y-in-loop-y c =
    omega (arith, c.loop-y-test.true)

pub overflow_add-y-in-loop-y-2 : goal.overflow_add-y-in-loop-y-2
overflow_add-y-in-loop-y-2 c =
    omega (arith, c.loop-y-test.true)

pub shape_of-map-then-height-y : goal.shape_of-map-then-height-y
shape_of-map-then-height-y c =
    c.cross_row.ensures.map_is.same ∙ c.loop-y.invariant.to.same

pub returns-then-height-y : goal.returns-then-height-y
returns-then-height-y c =
    let wide = c.requires.1.columns in
    let more = crossed-to-more c.args.head c.args.edge _ c.requires.0.zeros c.requires.2 wide in
    done_all c.args.head c.args.edge _ c.requires.0.zeros v.Highest _ _ wide
    (more _ _ _ _ _ _ _ c.requires.3 c.loop-y.invariant c.loop-y-test.true
    c.cross_row.ensures).to c.if-height-y.true

pub cross_row-requires-in-loop-y : goal.cross_row-requires-in-loop-y
cross_row-requires-in-loop-y c =
    let a = c.loop-y.invariant in
    record {
      sides = c.requires.0.sides;
      long = omega (arith, c.requires.0.long, c.cross_row.ensures.map_is.same, a.to.same);
      edge = c.requires.2;
      columns = c.requires.1.columns;
      here = c.if-height-y.false;
      size = a.above-is.margins.size;
    }

pub overflow_add-y-in-loop-y-3 : goal.overflow_add-y-in-loop-y-3
overflow_add-y-in-loop-y-3 c =
    omega (arith, c.requires.0.sides.low, c.if-height-y.false)

pub overflow_add-y-in-loop-y-4 : goal.overflow_add-y-in-loop-y-4
overflow_add-y-in-loop-y-4 c =
    omega (arith, c.requires.0.sides.low, c.if-height-y.false)

pub shape_of-map-then-height-y-2 : goal.shape_of-map-then-height-y-2
shape_of-map-then-height-y-2 c =
    c.cross_row-in-loop-y.ensures.map_is.same ∙ c.cross_row.ensures.map_is.same ∙
    c.loop-y.invariant.to.same

pub returns-then-height-y-2 : goal.returns-then-height-y-2
returns-then-height-y-2 c =
    let wide = c.requires.1.columns in
    let more = crossed-to-more c.args.head c.args.edge _ c.requires.0.zeros c.requires.2 wide in
    done_all c.args.head c.args.edge _ c.requires.0.zeros v.Highest _ _ wide
    (more _ _ _ _ _ _ _ c.requires.3
    (more _ _ _ _ _ _ _ c.requires.3 c.loop-y.invariant c.loop-y-test.true
    c.cross_row.ensures) c.if-height-y.false c.cross_row-in-loop-y.ensures).to
    c.if-height-y-2.true

pub cross_row-requires-in-loop-y-2 : goal.cross_row-requires-in-loop-y-2
cross_row-requires-in-loop-y-2 c =
    let a = c.loop-y.invariant in
    record {
      sides = c.requires.0.sides;
      long = omega (arith, c.requires.0.long, c.cross_row-in-loop-y.ensures.map_is.same, c.cross_row.ensures.map_is.same, a.to.same);
      edge = c.requires.2;
      columns = c.requires.1.columns;
      here = c.if-height-y-2.false;
      size = a.mid-is.margins.size;
    }

pub overflow_add-y-in-loop-y-5 : goal.overflow_add-y-in-loop-y-5
overflow_add-y-in-loop-y-5 c =
    omega (arith, c.requires.0.sides.low, c.if-height-y-2.false)

pub loop-y-smaller : goal.loop-y-smaller
loop-y-smaller c =
    omega (arith, c.loop-y-test.true)

pub loop-y-preserved : goal.loop-y-preserved
loop-y-preserved c =
    let wide = c.requires.1.columns in
    let more = crossed-to-more c.args.head c.args.edge _ c.requires.0.zeros c.requires.2 wide in
    more _ _ _ _ _ _ _ c.requires.3
    (more _ _ _ _ _ _ _ c.requires.3
    (more _ _ _ _ _ _ _ c.requires.3 c.loop-y.invariant c.loop-y-test.true c.cross_row.ensures)
    c.if-height-y.false c.cross_row-in-loop-y.ensures) c.if-height-y-2.false
    c.cross_row-in-loop-y-2.ensures

pub shape_of-map : goal.shape_of-map
shape_of-map c = c.loop-y.invariant.to.same

pub returns : goal.returns
returns c =
    let wide = c.requires.1.columns in
    done_all c.args.head c.args.edge _ c.requires.0.zeros v.Highest _ _ wide c.loop-y.invariant.to c.loop-y-test.false
