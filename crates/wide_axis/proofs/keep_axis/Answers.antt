use native.Mathlib.Omega.{arith}
use Rattle.row_arrays.proofs.Rows.{row-zeros}
use Rattle.wide_axis.proofs.Pass.{kept-start, kept-readable, kept_more, kept-all}
use Rattle.wide_axis.proofs.keep_axis.Goals as goal

pub read_row-requires : goal.read_row-requires
read_row-requires c =
    record {
      held = c.requires.0;
      room = c.requires.1;
      here = omega arith;
      margins = (row-zeros c.args.head.width).margins;
    }

pub loop-y-init : goal.loop-y-init
loop-y-init c =
    kept-start c.args.head c.args.out.now c.requires.0 c.requires.1 _ c.read_row.ensures

pub keep_row-requires : goal.keep_row-requires
keep_row-requires c =
    kept-readable c.args.head c.args.out.now c.requires.0 c.requires.1 _ _ _ _ _ c.loop-y.invariant (omega arith)

pub loop-y-preserved : goal.loop-y-preserved
loop-y-preserved c =
    kept_more c.args.head c.args.out.now c.requires.0 c.requires.1 _ _ _ _ _ _ _ c.loop-y.invariant (omega arith) c.keep_row.ensures

pub returns : goal.returns
returns c =
    kept-all c.args.head c.args.out.now c.requires.0 c.requires.1 _ _ _ _ _ c.loop-y.invariant (omega arith)
