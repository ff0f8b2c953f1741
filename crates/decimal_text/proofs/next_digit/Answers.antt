-- `next_digit` multiplies by ten in two limbs.
use mathlib.Core.Path.{refl}
use Rattle.decimal_text.proofs.Shortest.{ten-times}
use Rattle.decimal_text.proofs.next_digit.Goals as goal

pub returns : goal.returns
returns c = ten-times c.args.rest _ _ refl refl
