-- `put_picture` counts the depths, measures the room, then puts header and depths.
use mathlib.Core.Path.{sym}
use Prim.Native.Nat.{◌*◌}
use native.Mathlib.Omega.{arith}
use lib.Seq.{length-take-le}
use Rattle.numerals.proofs.Sizes.{numeral-most}
use Rattle.refusal.proofs.Refusals.{area-fits}
use Rattle.pgm_copies.proofs.Copying.{header-size, file-few, file-none, file-all}
use Rattle.pgm_copies.proofs.put_picture.Goals as goal

pub overflow_mul-cells : goal.overflow_mul-cells
overflow_mul-cells c =
    omega
    (arith, area-fits c.args.width c.args.height (omega arith) (omega arith))

pub returns-then-depths-cells : goal.returns-then-depths-cells
returns-then-depths-cells c =
    let given = c.args in
    file-few given.width given.height given.depths.now given.out.now c.if-depths-cells.true

pub overflow_add-needed : goal.overflow_add-needed
overflow_add-needed c =
    let given = c.args in
    omega (
      arith,
      area-fits given.width given.height (omega arith) (omega arith),
      c.header_length.ensures,
      header-size given.width given.height,
      numeral-most given.width,
      numeral-most given.height,
    )

pub returns-then-out-needed : goal.returns-then-out-needed
returns-then-out-needed c =
    let given = c.args in
    file-none given.width given.height given.depths.now given.out.now c.if-depths-cells.false
    c.header_length.result c.header_length.ensures c.if-out-needed.true

pub slice_bounds-append-end : goal.slice_bounds-append-end
slice_bounds-append-end c =
    let given = c.args in
    sym (length-take-le (given.height * given.width) given.depths.now c.if-depths-cells.false)

pub returns : goal.returns
returns c =
    let given = c.args in
    file-all given.width given.height given.depths.now given.out.now c.if-depths-cells.false
    c.header_length.result c.header_length.ensures
    c.append_header-end.new.page c.append.new.page
    c.append_header-end.result c.append.result c.if-out-needed.false
    c.append_header-end.ensures.0 c.append.ensures.0
