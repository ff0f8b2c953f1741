-- `append_number` puts the digits behind what the page holds.
use mathlib.Core.Path.{sym, subst}
use native.Mathlib.Omega.{arith}
use lib.Seq.{length-take-le}
use Rattle.numerals.proofs.Sizes.{numeral-most}
use Rattle.numerals.specs.Numerals.{numeral}
use Rattle.phrases.proofs.Puts.{puts-length}
use Rattle.phrases.proofs.Appends.{Appended, put-taken}
use Rattle.phrases.proofs.append_number.Goals as goal

pub put_numeral-used-requires : goal.put_numeral-used-requires
put_numeral-used-requires c = omega (arith, numeral-most c.args.n)

pub slice_bounds-digits-end : goal.slice_bounds-digits-end
slice_bounds-digits-end c =
    let given = c.args in
    let p = c.put_numeral-used.ensures in
    omega (
      arith,
      p.1,
      numeral-most given.n,
      puts-length _ 0 (numeral given.n) _ _ p (omega (arith, numeral-most given.n)),
    )

pub slice_bounds-append-end : goal.slice_bounds-append-end
slice_bounds-append-end c =
    let p = c.put_numeral-used.ensures in
    let n = c.args.n in
    sym
    (length-take-le _ _
    (omega (arith, p.1, numeral-most n, puts-length _ 0 (numeral n) _ _ p (omega (arith, numeral-most n)))))

pub returns : goal.returns
returns c =
    let given = c.args in
    let p = c.put_numeral-used.ensures in
    let n = given.n in
    subst
    (λ t. Appended given.page.now given.at t c.append.new.page c.append.result)
    (put-taken _ (numeral n) _ _ (omega (arith, numeral-most n)) p) c.append.ensures
