-- To be believed: which writes and events each status of a port accepts. docs/PORT-OTHER.md has the same as a table.
use Rattle.std.specs.Prelude.{◌≡◌, Bool, true, false, cond, ℕ, ◌+◌, eqb, ltb, Ok, Err}
use mathlib.Core.List.{Memᴰ}
use Rattle.port.specs.Machine.{command_byte, high_byte, done_event, fault_event, ready, busy, fault, interrupt, write_verdict, event_verdict}
use Rattle.port_theorems.specs.Runs.{statuses}
use Rattle.refusal.specs.Refusals.{Verdict}

-- nothing is refused
abbrev pub is_accepted : Verdict → Bool
is_accepted (Ok _) = true
is_accepted (Err r) = false

-- a status accepts a write of a value to a byte; an event
abbrev pub write_accepted : ℕ → ℕ → ℕ → Bool
write_accepted s i v = is_accepted (write_verdict s i v)

abbrev pub event_accepted : ℕ → ℕ → Bool
event_accepted s e = is_accepted (event_verdict s e)

-- a status that accepts one command, and neither another write nor an event
pub record OneCommand (s n : ℕ) : Type 0 where
  pub writes : (i v : ℕ) → write_accepted s i v ≡ cond (eqb i command_byte) (eqb v n) false
  pub events : (e : ℕ) → event_accepted s e ≡ false

-- ready: command 1, or any value for byte 2, 3, 4 or 5
pub record Ready : Type 0 where
  pub writes : (i v : ℕ) → write_accepted ready i v ≡ cond (eqb i command_byte) (eqb v 1) (cond (ltb command_byte i) (ltb i high_byte) false)
  pub events : (e : ℕ) → event_accepted ready e ≡ false

-- busy: the events of the press alone
pub record Busy : Type 0 where
  pub writes : (i v : ℕ) → write_accepted busy i v ≡ false
  pub events : (e : ℕ) → event_accepted busy e ≡ cond (eqb e done_event) true (eqb e fault_event)

-- a status that accepts nothing
pub record Nothing (s : ℕ) : Type 0 where
  pub writes : (i v : ℕ) → write_accepted s i v ≡ false
  pub events : (e : ℕ) → event_accepted s e ≡ false

-- the five statuses that a fresh port comes to; any other accepts nothing
pub record Accepting : Type 0 where
  pub when_ready : Ready
  pub when_busy : Busy
  pub when_done : OneCommand (interrupt + ready) 2
  pub when_failed : OneCommand (interrupt + fault) 2
  pub when_fault : OneCommand fault 3
  pub when_other : (s : ℕ) → (Memᴰ s statuses → ⊥) → Nothing s
