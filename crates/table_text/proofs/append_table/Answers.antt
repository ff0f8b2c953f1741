use Rattle.table_text.proofs.Lines.{lined-none, lined-more, lined-all}
use Rattle.table_text.proofs.append_table.Goals as goal

pub loop-depth-init : goal.loop-depth-init
loop-depth-init c =
    lined-none c.args.page.now c.args.at c.requires c.args.table.now

pub append_entry-end-requires : goal.append_entry-end-requires
append_entry-end-requires c = c.loop-depth.invariant.counted.0

pub loop-depth-preserved : goal.loop-depth-preserved
loop-depth-preserved c =
    let given = c.args in
    lined-more given.page.now given.at c.requires given.table.now _ _ _ _ _ c.loop-depth.invariant
    c.loop-depth-test.true c.append_entry-end.ensures

pub returns : goal.returns
returns c =
    let given = c.args in
    lined-all given.page.now given.at c.requires given.table.now _ _ _ c.loop-depth.invariant
    c.loop-depth-test.false
