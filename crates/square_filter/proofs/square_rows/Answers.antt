use mathlib.Core.Path.{◌∙◌}
use native.Mathlib.Omega.{arith}
use Rattle.square_filter.proofs.Square.{squared-to-none, squared-to-more, squared-to-all}
use Rattle.square_filter.proofs.square_rows.Goals as goal

pub loop-y-init : goal.loop-y-init
loop-y-init c =
    squared-to-none c.args.head c.args.edge _ c.requires.0.zeros c.requires.2 c.requires.1.columns
    c.requires.1.rows

pub overflow_add-y : goal.overflow_add-y
overflow_add-y c = omega (arith, c.loop-y.invariant.to.within)

pub square_row-requires : goal.square_row-requires
square_row-requires c =
    let a = c.loop-y.invariant in
    record {
      sides = c.requires.0.sides;
      long = omega (arith, c.requires.0.long, a.to.same);
      edge = c.requires.2;
      columns = c.requires.1.columns;
      here = c.loop-y-test.true;
      size = a.above-size;
    }

pub overflow_add-y-in-loop-y : goal.overflow_add-y-in-loop-y
overflow_add-y-in-loop-y c =
    omega (arith, c.loop-y-test.true)

pub overflow_add-y-in-loop-y-2 : goal.overflow_add-y-in-loop-y-2
overflow_add-y-in-loop-y-2 c =
    omega (arith, c.loop-y-test.true)

pub shape_of-map-then-height-y : goal.shape_of-map-then-height-y
shape_of-map-then-height-y c =
    c.square_row.ensures.map_is.same ∙ c.loop-y.invariant.to.same

pub returns-then-height-y : goal.returns-then-height-y
returns-then-height-y c =
    let more = squared-to-more c.args.head c.args.edge _ c.requires.0.zeros c.requires.2 c.requires.1.columns in
    squared-to-all c.args.head c.args.edge _ c.requires.0.zeros c.requires.2 c.requires.1.columns _ _ _ _
    (more _ _ _ _ _ _ c.requires.3 c.loop-y.invariant c.loop-y-test.true
    c.square_row.ensures) c.if-height-y.true

pub square_row-requires-in-loop-y : goal.square_row-requires-in-loop-y
square_row-requires-in-loop-y c =
    let a = c.loop-y.invariant in
    record {
      sides = c.requires.0.sides;
      long = omega (arith, c.requires.0.long, c.square_row.ensures.map_is.same, a.to.same);
      edge = c.requires.2;
      columns = c.requires.1.columns;
      here = c.if-height-y.false;
      size = a.mid-size;
    }

pub overflow_add-y-in-loop-y-3 : goal.overflow_add-y-in-loop-y-3
overflow_add-y-in-loop-y-3 c =
    omega (arith, c.requires.0.sides.low, c.if-height-y.false)

pub loop-y-smaller : goal.loop-y-smaller
loop-y-smaller c =
    omega (arith, c.loop-y-test.true)

pub loop-y-preserved : goal.loop-y-preserved
loop-y-preserved c =
    let more = squared-to-more c.args.head c.args.edge _ c.requires.0.zeros c.requires.2 c.requires.1.columns in
    more _ _ _ _ _ _ c.requires.3
    (more _ _ _ _ _ _ c.requires.3 c.loop-y.invariant c.loop-y-test.true c.square_row.ensures)
    c.if-height-y.false c.square_row-in-loop-y.ensures

pub shape_of-map : goal.shape_of-map
shape_of-map c = c.loop-y.invariant.to.same

pub returns : goal.returns
returns c =
    squared-to-all c.args.head c.args.edge _ c.requires.0.zeros c.requires.2 c.requires.1.columns _ _ _ _ c.loop-y.invariant c.loop-y-test.false
