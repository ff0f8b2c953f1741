-- Definitions by their values: a trace, its inputs, the numbers and the port that a fresh one gives, and what is said of the room.
use Rattle.std.specs.Prelude.{Ok, Err}
use mathlib.Core.Path.{◌≡◌, refl}
use mathlib.Core.List.{List, [], ◌∷◌}
use Prim.Native.Nat.{ℕ}
use Rattle.port.specs.declared.Input.TheVariants.{Write, Event}
use Rattle.port.specs.Machine.{fresh}
use Rattle.port_theorems.specs.Runs.{port_after, answers}
use Rattle.port_run.specs.Traces.{inputs_in, numbers_of, run_verdict}

-- command 1, event 1 from 1 and from 9, command 2, a write to byte 6
abbrev pub trace : List ℕ
trace = 0 ∷ 1 ∷ 1 ∷ 1 ∷ 1 ∷ 0 ∷ 9 ∷ 1 ∷ 5 ∷ 0 ∷ 1 ∷ 2 ∷ 0 ∷ 6 ∷ 4 ∷ []

pub its-inputs : inputs_in trace ≡ Write 1 1 ∷ Event 1 ∷ Event 1 ∷ Write 1 2 ∷ Write 6 4 ∷ []
unfolding inputs_in
its-inputs = refl

pub its-numbers : numbers_of (answers fresh (inputs_in trace)) ≡ 0 ∷ 0 ∷ 17 ∷ 0 ∷ 16 ∷ []
unfolding inputs_in
its-numbers = refl

-- ready again, with one plunge done
pub its-port : (port_after fresh (inputs_in trace)).bytes ≡ 1 ∷ 2 ∷ 0 ∷ 0 ∷ 0 ∷ 0 ∷ 0 ∷ 1 ∷ []
unfolding inputs_in
its-port = refl

-- an output of five bytes has room, one of four has not; a byte more is a cut input, whatever the room
pub its-verdicts : (run_verdict trace (0 ∷ 0 ∷ 0 ∷ 0 ∷ 0 ∷ []) ≡ Ok tt)
    × (run_verdict trace (0 ∷ 0 ∷ 0 ∷ 0 ∷ []) ≡ Err (record { number = 5; place = 5 }))
    × (run_verdict (0 ∷ trace) [] ≡ Err (record { number = 6; place = 15 }))
its-verdicts = (refl, refl, refl)
