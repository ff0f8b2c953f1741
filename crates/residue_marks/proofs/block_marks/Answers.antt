use Rattle.residue_marks.proofs.Marking.{block_none, block_more}
use Rattle.residue_marks.proofs.block_marks.Goals as goal

pub loop-i-init : goal.loop-i-init
loop-i-init c = block_none c.args.marks.now c.args.from 0

pub loop-i-preserved : goal.loop-i-preserved
loop-i-preserved c =
    block_more c.args.marks.now c.args.from c.loop-i.i c.loop-i.all c.loop-i.invariant
