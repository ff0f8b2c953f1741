-- `put_word` puts a numeral and a character behind it.
use mathlib.Core.List.{[], ◌∷◌}
use native.Mathlib.Omega.{arith}
use lib.ListN.{length-append}
use Rattle.numerals.specs.Numerals.{numeral}
use Rattle.phrases.proofs.Puts.{puts-length, puts-byte}
use Rattle.text_lines.proofs.put_word.Goals as goal

pub put_numeral-end-requires : goal.put_numeral-end-requires
put_numeral-end-requires c =
    omega (arith, length-append (numeral c.args.n) (c.args.mark ∷ []))

pub bounds-page-end : goal.bounds-page-end
bounds-page-end c =
    let given = c.args in
    let e = c.put_numeral-end.ensures in
    let l = length-append (numeral given.n) (given.mark ∷ []) in
    omega (arith, l, e.1, puts-length given.page.now given.at (numeral given.n) _ _ e (omega (arith, l)))

pub overflow_add-result : goal.overflow_add-result
overflow_add-result c =
    omega (arith, c.put_numeral-end.ensures.1, length-append (numeral c.args.n) (c.args.mark ∷ []))

pub returns : goal.returns
returns c =
    let given = c.args in
    puts-byte given.page.now given.at (numeral given.n) _ _ given.mark c.put_numeral-end.ensures c.requires
