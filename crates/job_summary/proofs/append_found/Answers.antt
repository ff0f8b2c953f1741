-- `append_found` puts no line for a reach that no plunge has.
use Rattle.job_summary.proofs.Lines.{found_none, found_some}
use Rattle.job_summary.proofs.append_found.Goals as goal

pub returns-then-count-eq0 : goal.returns-then-count-eq0
returns-then-count-eq0 c =
    found_none c.args.page.now c.args.at c.args.reach
    c.args.count c.args.least c.args.greatest
    c.requires c.if-count-eq0.true

pub returns : goal.returns
returns c =
    let given = c.args in
    found_some given.page.now given.at given.reach given.count given.least given.greatest _ _
    c.if-count-eq0.false c.append_reach.ensures
