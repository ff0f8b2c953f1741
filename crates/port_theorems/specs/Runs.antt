-- To be believed: lists of writes and events, call after call, and what N7 says of them (document 02).
use Rattle.std.specs.Prelude.{◌≡◌, Bool, false, cond, ℕ, ◌+◌, ◌<◌, min, eqb, length, get_or, Ok, Err}
use mathlib.Core.List.{List, [], ◌∷◌, Memᴰ}
use Rattle.port.specs.declared.Port.{Port}
use Rattle.port.specs.declared.Input.{Input}
use Rattle.port.specs.declared.Input.TheVariants.{Write, Event}
use Rattle.port.specs.declared.PortAnswer.{PortAnswer}
use Rattle.port.specs.Machine.{port_bytes, high_byte, low_byte, done_event, largest_count, ready, busy, fault, interrupt, fresh, status, count, step}
use Rattle.refusal.specs.Refusals.{Verdict}

-- ---- the machine over a list

-- the eight bytes after it
abbrev pub port_after : Port → List Input → Port
port_after p [] = p
port_after p (x ∷ more) = port_after (step p x).port more

-- each answer
abbrev pub answers : Port → List Input → List Verdict
answers p [] = []
answers p (x ∷ more) = (step p x).verdict ∷ answers (step p x).port more

-- ---- calls

-- calls of the port, one for each input, each handed the port that the call before gave back; `step` is what the contracts promise
abbrev pub Calls : Port → List Input → List PortAnswer → Type 0
Calls p [] [] = Unit {0}
Calls p [] (a ∷ rest) = ⊥
Calls p (x ∷ more) [] = ⊥
Calls p (x ∷ more) (a ∷ rest) = (a ≡ step p x) × Calls a.port more rest

-- the port that the last call gave back
abbrev pub last_port : Port → List PortAnswer → Port
last_port p [] = p
last_port p (a ∷ rest) = last_port a.port rest

-- what each call said
abbrev pub verdicts : List PortAnswer → List Verdict
verdicts [] = []
verdicts (a ∷ rest) = a.verdict ∷ verdicts rest

-- "the accepted "done" events"
abbrev pub accepted_done : Input → Verdict → Bool
accepted_done (Event e) (Ok _) = eqb e done_event
accepted_done (Event e) (Err r) = false
accepted_done (Write i v) (Ok _) = false
accepted_done (Write i v) (Err r) = false

abbrev pub dones_accepted : List Input → List Verdict → ℕ
dones_accepted [] vs = 0
dones_accepted (x ∷ more) [] = 0
dones_accepted (x ∷ more) (v ∷ vs) = cond (accepted_done x v) 1 0 + dones_accepted more vs

-- ---- what N7 says

-- eight numbers of which the last two are bytes
pub record Countable (p : Port) : Type 0 where
  pub eight : length p.bytes ≡ port_bytes
  pub high : get_or p.bytes high_byte 0 < 256
  pub low : get_or p.bytes low_byte 0 < 256

-- from any port: "the eight bytes and each answer are those of this machine", and the count has grown by the accepted "done" events
pub record Ran (p : Port) (xs : List Input) (calls : List PortAnswer) : Type 0 where
  pub bytes : last_port p calls ≡ port_after p xs
  pub each : verdicts calls ≡ answers p xs
  pub counted : count (last_port p calls) ≡ min largest_count (count p + dones_accepted xs (verdicts calls))

-- the statuses that a fresh port comes to
abbrev pub statuses : List ℕ
statuses = ready ∷ busy ∷ fault ∷ (interrupt + ready) ∷ (interrupt + fault) ∷ []

-- from a fresh port: also "the count is the smaller of 65,535 and the accepted "done" events"
pub record RanFresh (xs : List Input) (calls : List PortAnswer) : Type 0 where
  pub bytes : last_port fresh calls ≡ port_after fresh xs
  pub each : verdicts calls ≡ answers fresh xs
  pub counted : count (last_port fresh calls) ≡ min largest_count (dones_accepted xs (verdicts calls))
  pub known : Memᴰ (status (last_port fresh calls)) statuses
