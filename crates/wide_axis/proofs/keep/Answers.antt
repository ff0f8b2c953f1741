-- `keep` is `kept`, by the test against the highest of the neighbours.
use native.Mathlib.Omega.{arith}
use Rattle.wide_axis.proofs.Around.{kept-number, kept-none}
use Rattle.wide_axis.proofs.keep.Goals as goal

pub returns-then-highest_around-number : goal.returns-then-highest_around-number
returns-then-highest_around-number c =
    let given = c.args in
    kept-number given.kind given.above.now given.mid.now given.below.now given.n _
    c.highest_around.ensures (omega (arith, c.if-highest_around-number.true))

pub returns-else-highest_around-number : goal.returns-else-highest_around-number
returns-else-highest_around-number c =
    let given = c.args in
    kept-none given.kind given.above.now given.mid.now given.below.now given.n _
    c.highest_around.ensures (omega (arith, c.if-highest_around-number.false))
