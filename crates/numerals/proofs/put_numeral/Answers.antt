-- `put_numeral` puts as many digits as the number has.
use mathlib.Core.Path.{sym, ap, ◌∙◌}
use native.Mathlib.Omega.{arith}
use Prim.Native.Nat.{ℕ, ◌+◌}
use Rattle.fields.specs.Writing.{spliced}
use Rattle.numerals.proofs.Sizes.{numeral-digits, numeral-size}
use Rattle.numerals.proofs.put_numeral.Goals as goal

pub returns : goal.returns
returns c =
    let given = c.args in
    let k = c.digit_count-count.result in
    let e = c.digit_count-count.ensures in (
      c.put_digits.ensures
          ∙ ap (spliced given.out.now given.at) (sym (numeral-digits given.n k (omega arith) (numeral-size given.n k (omega arith) e))),
      ap (λ (j : ℕ). given.at + j) e,
    )
