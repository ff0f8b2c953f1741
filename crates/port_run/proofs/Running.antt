-- What the loop of a run leaves: the port behind the inputs so far, and their numbers in the output.
use mathlib.Core.Path.{◌≡◌, refl, sym, ap, ◌∙◌}
use mathlib.Core.List.{List, [], ◌∷◌, ◌++◌, map-append}
use Prim.Native.Nat.{ℕ, suc, ◌+◌, ◌≤◌, ◌<◌}
use native.Mathlib.Nat.{zero-add}
use native.Mathlib.Omega.{arith}
use lib.ListN.{length, set, length-map}
use lib.Seq.{sets-eq}
use Rattle.geometry.specs.Lists.{gather}
use Rattle.theory.proofs.Lists.{gather-more, length-each}
use Rattle.fields.specs.Writing.{spliced}
use Rattle.fields.proofs.Splice.{splice-start, splice-length, splice-splice}
use Rattle.port.specs.declared.Port.{Port}
use Rattle.port.specs.declared.Input.{Input}
use Rattle.port.specs.declared.PortAnswer.{PortAnswer}
use Rattle.port.specs.Machine.{step}
use Rattle.port_theorems.specs.Runs.{port_after, answers}
use Rattle.port_theorems.proofs.Runs.{after-append, answers-append}
use Rattle.port_run.specs.Traces.{input_at, input_count, inputs_in, number_of, numbers_of}
use Rattle.port_run.specs.Inputs.{InputRun, InputsRun}

-- the first k inputs of a trace
abbrev pub inputs_to : List ℕ → ℕ → List Input
inputs_to t k = gather k 0 (λ j. input_at t j ∷ [])

inputs-more : (t : List ℕ) (k : ℕ) → inputs_to t (k + 1) ≡ inputs_to t k ++ (input_at t k ∷ [])
inputs-more t k = gather-more k 0 (λ j. input_at t j ∷ []) ∙ ap (λ (j : ℕ). inputs_to t k ++ (input_at t j ∷ [])) (zero-add k)

-- an answer for each input, and a byte for each answer
answers-length : (p : Port) (xs : List Input) → length (answers p xs) ≡ length xs
answers-length p [] = refl
answers-length p (x ∷ more) = ap suc (answers-length (step p x).port more)

pub numbers-length : (p : Port) (xs : List Input) → length (numbers_of (answers p xs)) ≡ length xs
numbers-length p xs = length-map (answers p xs) number_of ∙ answers-length p xs

-- the numbers of one list behind another
pub numbers-append : (p : Port) (xs ys : List Input)
    → numbers_of (answers p (xs ++ ys)) ≡ numbers_of (answers p xs) ++ numbers_of (answers (port_after p xs) ys)
numbers-append p xs ys = ap numbers_of (answers-append p xs ys) ∙ map-append number_of (answers p xs) (answers (port_after p xs) ys)

-- one input is run, by what its calls give
pub run-one : (p : Port) (t : List ℕ) (k : ℕ) (old : List ℕ) (x : Input) (a : PortAnswer) (n : ℕ) → x ≡ input_at t k → a ≡ step p x
    → n ≡ number_of a.verdict → InputRun p t k old (set old k n) a.port
run-one p t k old x a n x-is a-is n-is =
    let a_at : a ≡ step p (input_at t k) = a-is ∙ ap (step p) x-is in
    record {
      port = ap (λ (b : PortAnswer). b.port) a_at;
      numbers = ap (set old k) (n-is ∙ ap (λ (b : PortAnswer). number_of b.verdict) a_at);
    }

-- the first k inputs are run
pub record RunTo (p : Port) (t old : List ℕ) (k : ℕ) (now : List ℕ) (after : Port) : Type 0 where
  pub port : after ≡ port_after p (inputs_to t k)
  pub numbers : now ≡ spliced old 0 (numbers_of (answers p (inputs_to t k)))

module _ (p : Port) (t old : List ℕ) where
  numbers-to : (k : ℕ) → length (numbers_of (answers p (inputs_to t k))) ≡ k
  numbers-to k = numbers-length p (inputs_to t k) ∙ length-each (input_at t) k 0

  pub run_length : (k : ℕ) (now : List ℕ) (q : Port) → k ≤ length old → RunTo p t old k now q → length now ≡ length old
  run_length k now q h r = ap length r.numbers ∙ splice-length old 0 (numbers_of (answers p (inputs_to t k))) (omega (arith, h, numbers-to k))

  -- one input more, from the port behind those before it
  pub run_more : (k : ℕ) (now next : List ℕ) (q r : Port) → k < length old → RunTo p t old k now q → InputRun q t k now next r
      → RunTo p t old (k + 1) next r
  run_more k now next q r h so_far one =
      record {
        port =
            one.port ∙ ap (λ (b : PortAnswer). b.port) stepping
            ∙ sym (ap (port_after p) (inputs-more t k) ∙ after-append p (inputs_to t k) (input_at t k ∷ []));
        numbers =
            one.numbers
            ∙ ap (λ (b : PortAnswer). set now k (number_of b.verdict)) stepping
            ∙ sets-eq (last ∷ []) now k (omega (arith, h, run_length k now q (omega (arith, h)) so_far))
            ∙ ap (λ (l : List ℕ). spliced l k (last ∷ [])) so_far.numbers
            ∙ ap (λ (m : ℕ). spliced (spliced old 0 before) m (last ∷ [])) place
            ∙ splice-splice old 0 before (last ∷ []) (omega (arith, h, numbers-to k))
            ∙ sym (ap (λ (xs : List Input). spliced old 0 (numbers_of (answers p xs))) (inputs-more t k)
            ∙ ap (spliced old 0) (numbers-append p (inputs_to t k) (input_at t k ∷ [])));
      }
    where
      before : List ℕ
      before = numbers_of (answers p (inputs_to t k))

      last : ℕ
      last = number_of (step (port_after p (inputs_to t k)) (input_at t k)).verdict

      stepping : step q (input_at t k) ≡ step (port_after p (inputs_to t k)) (input_at t k)
      stepping = ap (λ (b : Port). step b (input_at t k)) so_far.port

      place : k ≡ 0 + length before
      place = omega (arith, numbers-to k)

  pub run-all : (now : List ℕ) (q : Port) → RunTo p t old (input_count (length t)) now q → InputsRun p t old now q
  unfolding inputs_in
  run-all now q r =
      record { port = r.port; numbers = r.numbers ∙ splice-start old (numbers_of (answers p (inputs_to t (input_count (length t))))) }
