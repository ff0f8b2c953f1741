-- Serves proofs: what running one input and all inputs of a trace ask and leave, and the trace that is made of a list of inputs.
use Rattle.std.specs.Prelude.{◌≡◌, List, [], ◌∷◌, ℕ, ◌+◌, ◌*◌, ◌≤◌, ◌<◌, length, set, Ok}
use Rattle.refusal.specs.Refusals.{written}
use Rattle.port.specs.declared.Port.{Port}
use Rattle.port.specs.declared.Input.{Input}
use Rattle.port.specs.declared.Input.TheVariants.{Write, Event}
use Rattle.port.specs.Machine.{step}
use Rattle.port_theorems.specs.Runs.{port_after, answers}
use Rattle.port_run.specs.Traces.{trace_step, host, input_at, input_count, inputs_in, number_of, numbers_of}

-- ---- the loop over a trace

-- input number k is whole, and its answer has a place
pub record InputThere (t : List ℕ) (k : ℕ) (out : List ℕ) : Type 0 where
  pub whole : trace_step * k + trace_step ≤ length t
  pub room : k < length out

-- it is run
pub record InputRun (p : Port) (t : List ℕ) (k : ℕ) (old now : List ℕ) (after : Port) : Type 0 where
  pub port : after ≡ (step p (input_at t k)).port
  pub numbers : now ≡ set old k (number_of (step p (input_at t k)).verdict)

-- an output with a byte for each whole input
pub record Roomy (t out : List ℕ) : Type 0 where
  pub room : input_count (length t) ≤ length out

-- every whole input is run
pub record InputsRun (p : Port) (t old now : List ℕ) (after : Port) : Type 0 where
  pub port : after ≡ port_after p (inputs_in t)
  pub numbers : now ≡ written (Ok tt) (numbers_of (answers p (inputs_in t))) old

-- ---- the trace of a list of inputs

-- a number that one byte holds
abbrev pub IsByte : ℕ → Type 0
IsByte n = n < 256

-- an input that three bytes can say
abbrev pub ByteInput : Input → Type 0
ByteInput (Write i v) = IsByte i × IsByte v
ByteInput (Event e) = IsByte e

-- three bytes for each input
abbrev pub trace_of : List Input → List ℕ
trace_of [] = []
trace_of (Write i v ∷ more) = host ∷ i ∷ v ∷ trace_of more
trace_of (Event e ∷ more) = (host + 1) ∷ e ∷ 0 ∷ trace_of more
