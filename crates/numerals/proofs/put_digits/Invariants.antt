-- `put_digits` writes the last digit first.
use mathlib.Core.Path.{◌≡◌}
use Rattle.fields.specs.Writing.{spliced}
use Rattle.numerals.specs.Numerals.{digit_text}
use Rattle.numerals.proofs.put_digits.Given as goal

abbrev pub invariant-loop-i : goal.invariant-loop-i
invariant-loop-i l = spliced l.out l.at (digit_text l.base l.i l.left) ≡ spliced l.initial.out l.at (digit_text l.base l.count l.n)
