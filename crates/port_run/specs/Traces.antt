-- To be believed: a list of writes and events as bytes, what is tried of it, and what a run over it leaves (document 02, N7).
use Rattle.std.specs.Prelude.{◌≡◌, not, cond, List, [], ◌∷◌, map, ℕ, ◌+◌, ◌*◌, ◌/◌, ◌%◌, eqb, ltb, length, get_or, Ok, Err}
use Rattle.geometry.specs.Lists.{gather}
use Rattle.refusal.specs.Refusals.{Trial, trial, first_met, written}
use Rattle.port.specs.declared.Port.{Port}
use Rattle.port.specs.declared.Input.{Input}
use Rattle.port.specs.declared.Input.TheVariants.{Write, Event}
use Rattle.port.specs.declared.PortAnswer.{PortAnswer}
use Rattle.port.specs.Machine.{stepped}
use Rattle.port_theorems.specs.Runs.{port_after, answers}
use Rattle.refusal.specs.Refusals.{Verdict}

-- ---- a trace

-- the bytes of an input, in an order that is ours: who, what, value
abbrev pub trace_step : ℕ
trace_step = 3

-- who 0 is the host, any other the press
abbrev pub host : ℕ
host = 0

-- the host writes the value to byte number what; the press has event number what, and the value is not looked at
abbrev pub input_of : ℕ → ℕ → ℕ → Input
input_of who what value = cond (eqb who host) (Write what value) (Event what)

-- input number k of a trace
abbrev pub input_at : List ℕ → ℕ → Input
input_at t k = input_of (get_or t (trace_step * k) 0) (get_or t (trace_step * k + 1) 0) (get_or t (trace_step * k + 2) 0)

-- the whole inputs that so many bytes hold
abbrev pub input_count : ℕ → ℕ
input_count bytes = bytes / trace_step

-- all inputs of a trace, in their order
unfoldable pub inputs_in : List ℕ → List Input
inputs_in t = gather (input_count (length t)) 0 (λ k. input_at t k ∷ [])

-- ---- the answers as bytes

-- 0 for an input that was accepted, else its refusal's number
abbrev pub number_of : Verdict → ℕ
number_of (Ok _) = 0
number_of (Err r) = r.number

-- a byte for each answer
abbrev pub numbers_of : List Verdict → List ℕ
numbers_of = map number_of

-- ---- what is tried

-- a trace whose last input is cut gets 6 at that input's first byte; then "5: output buffer shorter than the answer", its place the length needed
abbrev pub run_trials : ℕ → ℕ → List Trial
run_trials bytes room =
    trial (not (eqb (bytes % trace_step) 0)) 6 (trace_step * input_count bytes)
    ∷ trial (ltb room (input_count bytes)) 5 (input_count bytes)
    ∷ []

-- the verdict of a run over a trace with an output
abbrev pub run_verdict : List ℕ → List ℕ → Verdict
run_verdict t out = first_met (run_trials (length t) (length out))

-- ---- a run

-- a run that is accepted gives the port behind the last input and each answer's number; a refusal leaves port and output as they were
pub record TraceRun (p : Port) (t old now : List ℕ) (r : PortAnswer) : Type 0 where
  pub answer : r ≡ stepped (run_verdict t old) (port_after p (inputs_in t)) p
  pub numbers : now ≡ written (run_verdict t old) (numbers_of (answers p (inputs_in t))) old
