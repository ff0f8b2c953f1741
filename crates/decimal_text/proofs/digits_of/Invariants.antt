-- `digits_of` finds the fewest digits, and of those the nearest.
use Prim.Native.Nat.{◌-◌}
use Rattle.decimal_text.specs.Digits.{most_digits}
use Rattle.decimal_text.proofs.Shortest.{Found}
use Rattle.decimal_text.proofs.digits_of.Given as goal

abbrev pub invariant-loop-step : goal.invariant-loop-step
invariant-loop-step l = Found l.fraction l.half l.rest l.margin l.number l.count

abbrev pub decreases-loop-step : goal.decreases-loop-step
decreases-loop-step l = most_digits - l.count
