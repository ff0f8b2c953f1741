-- What N7 says of every list of writes and events: from any port, and from a fresh one.
use mathlib.Core.Path.{refl, sym, ap, subst, ◌∙◌}
use mathlib.Core.List.{List, Memᴰ}
use Prim.Native.Nat.{◌+◌, min}
use native.Mathlib.Omega.{arith}
use Rattle.port.specs.declared.Port.{Port}
use Rattle.port.specs.declared.Input.{Input}
use Rattle.port.specs.declared.PortAnswer.{PortAnswer}
use Rattle.port.specs.Machine.{largest_count, fresh, status, count}
use Rattle.port_theorems.specs.Runs.{Calls, dones_accepted, Countable, Ran, statuses, RanFresh}
use Rattle.port_theorems.proofs.Runs.{calls-port, calls-each}
use Rattle.port_theorems.proofs.Counts.{run-counts}
use Rattle.port_theorems.proofs.Statuses.{run-known}
use Rattle.refusal.specs.Refusals.{Verdict}

pub from-any : (p : Port) → Countable p → (xs : List Input) (calls : List PortAnswer) → Calls p xs calls → Ran p xs calls
from-any p c xs calls k =
    record {
      bytes = calls-port p xs calls k;
      each = calls-each p xs calls k;
      counted =
          ap count (calls-port p xs calls k) ∙ run-counts p xs c
          ∙ ap (λ (vs : List Verdict). min largest_count (count p + dones_accepted xs vs)) (sym (calls-each p xs calls k));
    }

fresh-countable : Countable fresh
fresh-countable = record { eight = refl; high = omega arith; low = omega arith }

pub from-fresh : (xs : List Input) (calls : List PortAnswer) → Calls fresh xs calls → RanFresh xs calls
from-fresh xs calls k =
    record {
      bytes = ran.bytes;
      each = ran.each;
      counted = ran.counted ∙ omega arith;
      known = subst (λ (p : Port). Memᴰ (status p) statuses) (sym ran.bytes) (run-known fresh xs fresh-countable (Memᴰ.head refl));
    }
  where
    ran : Ran fresh xs calls
    ran = from-any fresh fresh-countable xs calls k
