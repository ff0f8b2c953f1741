-- To be believed: the press port, a machine of eight bytes (document 02, N7): its tables, and one step of it.
use Rattle.std.specs.Prelude.{Bool, true, false, cond, not, List, [], ◌∷◌, ℕ, ◌+◌, ◌*◌, ◌/◌, ◌%◌, min, eqb, leb, get_or, set, Ok, Err}
use Rattle.geometry.specs.Lists.{any}
use Rattle.refusal.specs.Refusals.{trial, first_met}
use Rattle.port.specs.declared.Port.{Port}
use Rattle.port.specs.declared.Input.{Input}
use Rattle.port.specs.declared.Input.TheVariants.{Write, Event}
use Rattle.port.specs.declared.PortAnswer.{PortAnswer}
use Rattle.refusal.specs.Refusals.{Verdict}

-- ---- the eight bytes

-- "eight bytes"
abbrev pub port_bytes : ℕ
port_bytes = 8

-- "0 status, 1 last command, 2 column, 3 row, 4 reach, 5 depth, 6 and 7 plunges done": the places that the rules name
abbrev pub status_byte : ℕ
status_byte = 0

abbrev pub command_byte : ℕ
command_byte = 1

abbrev pub high_byte : ℕ
high_byte = 6

abbrev pub low_byte : ℕ
low_byte = 7

-- "At start all are 0 but status, which is 1."
abbrev pub fresh : Port
fresh = record { bytes = 1 ∷ 0 ∷ 0 ∷ 0 ∷ 0 ∷ 0 ∷ 0 ∷ 0 ∷ [] }

-- byte 0
abbrev pub status : Port → ℕ
status p = get_or p.bytes status_byte 0

-- "plunges done, high byte first"
abbrev pub count : Port → ℕ
count p = 256 * get_or p.bytes high_byte 0 + get_or p.bytes low_byte 0

-- the port with another number at a place; with another count
abbrev pub with_byte : ℕ → ℕ → Port → Port
with_byte i v p = record { bytes = set p.bytes i v }

abbrev pub with_count : ℕ → Port → Port
with_count n p = with_byte low_byte (n % 256) (with_byte high_byte (n / 256) p)

-- ---- the tables

-- "Status bits: 1 ready, 2 busy, 4 fault, 128 interrupt."
abbrev pub ready : ℕ
ready = 1

abbrev pub busy : ℕ
busy = 2

abbrev pub fault : ℕ
fault = 4

abbrev pub interrupt : ℕ
interrupt = 128

-- the events' numbers, which are ours
abbrev pub done_event : ℕ
done_event = 1

abbrev pub fault_event : ℕ
fault_event = 2

-- a command or an event turns a status into another
pub record Turn : Type 0 where
  pub input : ℕ
  pub from : ℕ
  pub into : ℕ

abbrev pub turn : ℕ → ℕ → ℕ → Turn
turn n s t = record { input = n; from = s; into = t }

-- "Command 1 turns status 1 into 2." "Command 2 turns 129 into 1 and 132 into 4." "Command 3 turns 4 into 1."
abbrev pub commands : List Turn
commands =
    turn 1 ready busy
    ∷ turn 2 (interrupt + ready) ready
    ∷ turn 2 (interrupt + fault) fault
    ∷ turn 3 fault ready
    ∷ []

-- "Press event "done" turns 2 into 129 …. Event "fault" turns 2 into 132."
abbrev pub events : List Turn
events =
    turn done_event busy (interrupt + ready)
    ∷ turn fault_event busy (interrupt + fault)
    ∷ []

-- an entry of a table is about a command or an event in a status
abbrev pub about : ℕ → ℕ → Turn → Bool
about s n t = cond (eqb n t.input) (eqb s t.from) false

-- some entry is: the command or the event is "named for the present status"
abbrev pub named : List Turn → ℕ → ℕ → Bool
named table s n = any (about s n) table

-- the status after it; one that the table does not name stays
abbrev pub turned : List Turn → ℕ → ℕ → ℕ
turned [] s n = s
turned (t ∷ more) s n = cond (about s n t) t.into (turned more s n)

-- ---- what is refused

-- "A write to byte 0, 6, 7 or beyond gets 16"
abbrev pub read_only : ℕ → Bool
read_only i = cond (eqb i status_byte) true (leb high_byte i)

-- "A command is a write to byte 1"; "With status 1 the host may write bytes 2 to 5."
abbrev pub write_named : ℕ → ℕ → ℕ → Bool
write_named s i v = cond (eqb i command_byte) (named commands s v) (eqb s ready)

-- "any other write or event not named for the present status gets 17"
abbrev pub write_verdict : ℕ → ℕ → ℕ → Verdict
write_verdict s i v = first_met (trial (read_only i) 16 0 ∷ trial (not (write_named s i v)) 17 0 ∷ [])

abbrev pub event_verdict : ℕ → ℕ → Verdict
event_verdict s e = first_met (trial (not (named events s e)) 17 0 ∷ [])

-- ---- a step

-- byte 1 "keeps it if accepted"; the other bytes that may be written change nothing else
abbrev pub after_write : Port → ℕ → ℕ → Port
after_write p i v =
    cond (eqb i command_byte) (with_byte status_byte (turned commands (status p) v) (with_byte command_byte v p)) (with_byte i v p)

-- "adds one to the count, which stops at 65,535"
abbrev pub largest_count : ℕ
largest_count = 65535

abbrev pub after_event : Port → ℕ → Port
after_event p e =
    with_byte status_byte (turned events (status p) e)
    (cond (eqb e done_event) (with_count (min largest_count (count p + 1)) p) p)

-- a refusal "leaves all eight bytes"
abbrev pub stepped : Verdict → Port → Port → PortAnswer
stepped (Ok _) new old = record { port = new; verdict = (Ok tt) }
stepped (Err r) new old = record { port = old; verdict = Err r }

-- a write of the host; an event of the press
abbrev pub written : Port → ℕ → ℕ → PortAnswer
written p i v = stepped (write_verdict (status p) i v) (after_write p i v) p

abbrev pub happened : Port → ℕ → PortAnswer
happened p e = stepped (event_verdict (status p) e) (after_event p e) p

-- one step of the machine
abbrev pub step : Port → Input → PortAnswer
step p (Write i v) = written p i v
step p (Event e) = happened p e
