-- `unsigned` goes by what was read.
use Rattle.std.proofs.Common.{arith}
use borrow.Author.Tests.{not-true, not-false}
use Rattle.decimal.proofs.Scans.{not_good, no_digit, too_long, number, short}
use Rattle.decimal.proofs.unsigned.Goals as goal
use Rattle.decimal.proofs.unsigned.Goals.{then-not-s-via-then-not-s, then-not-s-via-else-not-s+then-s-eq0}

pub returns-then-not-s : goal.returns-then-not-s
returns-then-not-s c =
    let given = c.args in
    elim c.then-not-s.branch [
      | then-not-s-via-then-not-s w ↦
          not_good given.negative given.text.now c.scan_all-s.result c.scan_all-s.ensures (not-true _ w.if-not-s.true)
      | then-not-s-via-else-not-s+then-s-eq0 w ↦
          no_digit given.negative given.text.now c.scan_all-s.result c.scan_all-s.ensures (not-false _ w.if-not-s.false)
          w.if-s-eq0.true
    ]

pub returns-then-s-gt15 : goal.returns-then-s-gt15
returns-then-s-gt15 c =
    too_long c.args.negative c.args.text.now c.scan_all-s.result
    c.scan_all-s.ensures (not-false _ c.if-not-s.false) (omega arith)

pub quotient-requires : goal.quotient-requires
quotient-requires c =
    short c.args.text.now c.scan_all-s.result c.scan_all-s.ensures (omega arith)

pub returns : goal.returns
returns c =
    number c.args.negative c.args.text.now c.scan_all-s.result _
    c.scan_all-s.ensures (not-false _ c.if-not-s.false) c.if-s-eq0.false c.if-s-gt15.false
    c.quotient.ensures
