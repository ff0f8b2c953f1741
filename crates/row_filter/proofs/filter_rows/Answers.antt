use Prim.Native.Nat.{◌-◌, ◌*◌}
use native.Mathlib.Omega.{arith}
use Rattle.row_arrays.proofs.Rows.{row-zeros}
use Rattle.row_filter.proofs.InPlace.{filtered-none, filtered-more, done_all}
use Rattle.row_filter.proofs.filter_rows.Goals as goal

pub read_row-requires : goal.read_row-requires
read_row-requires c =
    record {
      sides = c.requires.0.sides;
      long = c.requires.0.long;
      some = c.requires.1.columns;
      here = omega (arith, c.requires.1.rows);
      margins = (row-zeros (c.args.head.width - 2 * c.args.edge)).margins;
    }

pub loop-y-init : goal.loop-y-init
loop-y-init c =
    filtered-none c.args.head c.args.edge _ c.requires.0.zeros c.args.made _ c.requires.1.columns c.requires.1.rows c.read_row.ensures

pub filter_row-requires : goal.filter_row-requires
filter_row-requires c =
    let a = c.loop-y.invariant in
    record {
      sides = c.requires.0.sides;
      long = omega (arith, c.requires.0.long, a.to.same);
      some = c.requires.1.columns;
      here = omega arith;
      margins = a.below-margins;
    }

pub loop-y-preserved : goal.loop-y-preserved
loop-y-preserved c =
    filtered-more c.args.head c.args.edge _ c.requires.0.zeros c.args.made _ _ _ _ _ _ _ c.requires.1.columns c.loop-y.invariant (omega arith)
    c.filter_row.ensures

pub returns : goal.returns
returns c =
    done_all c.args.head c.args.edge _ c.requires.0.zeros c.args.made _ _ c.requires.1.columns c.loop-y.invariant.to (omega arith)
