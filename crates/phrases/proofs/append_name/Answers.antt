use Rattle.phrases.proofs.Appends.{shown-none, shown-more, shown-all}
use Rattle.phrases.proofs.append_name.Goals as goal

pub loop-byte-init : goal.loop-byte-init
loop-byte-init c =
    shown-none c.args.page.now c.args.at c.args.name.now
    c.requires

pub append_byte-end-requires : goal.append_byte-end-requires
append_byte-end-requires c = c.loop-byte.invariant.counted.0

pub loop-byte-preserved : goal.loop-byte-preserved
loop-byte-preserved c =
    let given = c.args in
    shown-more given.page.now given.at given.name.now c.requires c.loop-byte.page
    c.loop-byte.end c.loop-byte.byte-index _ _ c.loop-byte.invariant c.loop-byte-test.true
    c.append_byte-end.ensures

pub returns : goal.returns
returns c =
    let given = c.args in
    shown-all given.page.now given.at given.name.now c.requires c.loop-byte.page
    c.loop-byte.end c.loop-byte.byte-index c.loop-byte.invariant c.loop-byte-test.false
