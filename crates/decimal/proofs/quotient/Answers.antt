-- `quotient` rounds once.
use Rattle.decimal.proofs.Quotients.{quotient-of, negative_of}
use Rattle.decimal.proofs.quotient.Goals as goal

pub returns-then-negative : goal.returns-then-negative
returns-then-negative c =
    let given = c.args in
    negative_of given.negative given.digits given.unit _ _ c.if-negative.true c.requires
    c.nearest_u64_to_f64.ensures c.nearest_u64_to_f64-2.ensures

pub returns-else-negative : goal.returns-else-negative
returns-else-negative c =
    let given = c.args in
    quotient-of given.negative given.digits given.unit _ _ c.if-negative.false c.requires
    c.nearest_u64_to_f64.ensures c.nearest_u64_to_f64-2.ensures
