-- `nearer` goes by the rest, beside one half.
use native.Mathlib.Omega.{arith}
use Rattle.decimal_text.proofs.Shortest.{nearer-low, nearer-high, nearer-tie}
use Rattle.decimal_text.proofs.nearer.Goals as goal

pub returns-then-rest-lt-MIDDLE : goal.returns-then-rest-lt-MIDDLE
returns-then-rest-lt-MIDDLE c = nearer-low c.args.number c.args.rest (omega arith) (omega (arith, c.if-rest-lt-MIDDLE.true))

pub returns-then-rest-gt-MIDDLE : goal.returns-then-rest-gt-MIDDLE
returns-then-rest-gt-MIDDLE c =
    let given = c.args in
    nearer-high given.number given.rest (omega arith) (omega (arith, c.if-rest-gt-MIDDLE.true))

pub returns : goal.returns
returns c =
    let given = c.args in
    nearer-tie given.number given.rest (omega arith) (omega (arith, c.if-rest-lt-MIDDLE.false)) (omega (arith, c.if-rest-gt-MIDDLE.false))
