-- `finish_run` stores what the numbers say: the invariant is `WideFilled` up to the number reached, which still has its old bytes.
use Prim.Native.Nat.{◌-◌}
use lib.ListN.{get_or}
use Rattle.wide_rows.specs.Wide.{wide_numbers, wide_wall, WideFilled}
use Rattle.wide_transform.proofs.finish_run.Given as goal

abbrev pub invariant-loop-n : goal.invariant-loop-n
invariant-loop-n l = WideFilled (λ n. wide_wall - get_or (wide_numbers l.initial.out) n 0) 0 l.n l.initial.out l.out
