-- Laws of traces: every list of inputs that bytes can say has one, a run over it is the machine's, and traces follow each other.
use Rattle.std.specs.Prelude.{Ok}
use mathlib.Core.Path.{◌≡◌, refl, sym, ap, ◌∙◌}
use mathlib.Core.List.{List, [], ◌∷◌, ◌++◌}
use Prim.Native.Nat.{ℕ, zero, suc, ◌+◌, ◌*◌, ◌%◌, ◌≤◌}
use native.Mathlib.Omega.{arith}
use lib.ListN.{length, get_or}
use Rattle.geometry.specs.Lists.{gather}
use Rattle.theory.proofs.Lists.{All}
use Rattle.refusal.specs.Refusals.{written}
use Rattle.port.specs.declared.Port.{Port}
use Rattle.port.specs.declared.Input.{Input}
use Rattle.port.specs.declared.Input.TheVariants.{Write, Event}
use Rattle.port.specs.declared.PortAnswer.{PortAnswer}
use Rattle.port_theorems.specs.Runs.{port_after, answers}
use Rattle.port_theorems.proofs.Runs.{after-append}
use Rattle.port_run.specs.Traces.{trace_step, host, input_of, input_at, input_count, inputs_in, numbers_of, TraceRun}
use Rattle.port_run.specs.Inputs.{IsByte, ByteInput, trace_of}
use Rattle.port_run.proofs.Running.{numbers-append}
use Rattle.port_run.proofs.Verdicts.{gives_none, run-verdict, run-accepted, run-whole}

-- ---- the inputs of a trace, from its first on

gather-shift : {A : Type 0} (n i : ℕ) (f g : ℕ → List A) → ((j : ℕ) → f (suc j) ≡ g j) → gather n (suc i) f ≡ gather n i g
gather-shift zero i f g h = refl
gather-shift (suc n) i f g h = rw (h i) (ap (λ l. g i ++ l) (gather-shift n (suc i) f g h))

pub inputs-cons : (who what value : ℕ) (t : List ℕ) → inputs_in (who ∷ what ∷ value ∷ t) ≡ input_of who what value ∷ inputs_in t
unfolding inputs_in
inputs-cons who what value t =
    ap (λ (n : ℕ). gather n 0 (λ k. input_at longer k ∷ [])) count
    ∙ ap (λ (l : List Input). input_of who what value ∷ l)
    (gather-shift (input_count (length t)) 0 (λ k. input_at longer k ∷ []) (λ k. input_at t k ∷ []) (λ j. ap (λ (x : Input). x ∷ []) (later j)))
  where
    longer : List ℕ
    longer = who ∷ what ∷ value ∷ t

    count : input_count (length longer) ≡ suc (input_count (length t))
    count = omega arith

    later : (j : ℕ) → input_at longer (suc j) ≡ input_at t j
    later j =
        let first : trace_step * suc j ≡ suc (suc (suc (trace_step * j))) = omega arith in
        let second : trace_step * suc j + 1 ≡ suc (suc (suc (trace_step * j + 1))) = omega arith in
        let third : trace_step * suc j + 2 ≡ suc (suc (suc (trace_step * j + 2))) = omega arith in
        λ i. input_of (get_or longer (first i) 0) (get_or longer (second i) 0) (get_or longer (third i) 0)

-- ---- every list of inputs that bytes can say is the inputs of a trace

pub trace-bytes : (xs : List Input) → All ByteInput xs → All IsByte (trace_of xs)
trace-bytes [] h = tt
trace-bytes (Write i v ∷ more) h = (omega arith, (h.0.0, (h.0.1, trace-bytes more h.1)))
trace-bytes (Event e ∷ more) h = (omega arith, (h.0, (omega arith, trace-bytes more h.1)))

pub trace-inputs : (xs : List Input) → inputs_in (trace_of xs) ≡ xs
unfolding inputs_in
trace-inputs [] = refl
trace-inputs (Write i v ∷ more) = inputs-cons host i v (trace_of more) ∙ ap (λ (l : List Input). Write i v ∷ l) (trace-inputs more)
trace-inputs (Event e ∷ more) = inputs-cons (host + 1) e 0 (trace_of more) ∙ ap (λ (l : List Input). Event e ∷ l) (trace-inputs more)

pub trace-length : (xs : List Input) → length (trace_of xs) ≡ trace_step * length xs
trace-length [] = refl
trace-length (Write i v ∷ more) = omega (arith, trace-length more)
trace-length (Event e ∷ more) = omega (arith, trace-length more)

pub trace-there : (xs : List Input) → All ByteInput xs → (t : List ℕ) × All IsByte t × (inputs_in t ≡ xs)
trace-there xs h = (trace_of xs, trace-bytes xs h, trace-inputs xs)

-- with room for its answers a run over the trace of a list is accepted, and gives the machine's port and its answers
pub list-run : (p : Port) (xs : List Input) (old now : List ℕ) (r : PortAnswer) → length xs ≤ length old → TraceRun p (trace_of xs) old now r
    → (r ≡ record { port = port_after p xs; verdict = (Ok tt) }) × (now ≡ written (Ok tt) (numbers_of (answers p xs)) old)
list-run p xs old now r h run =
    let done = run-accepted p (trace_of xs) old now r run
    (run-verdict p (trace_of xs) old now r run
    ∙ sym (gives_none (length (trace_of xs)) (length old) (omega (arith, trace-length xs)) (omega (arith, trace-length xs, h)))) in (
      done.0 ∙ ap (λ (l : List Input). record { port = port_after p l; verdict = (Ok tt) }) (trace-inputs xs),
      done.1 ∙ ap (λ (l : List Input). written (Ok tt) (numbers_of (answers p l)) old) (trace-inputs xs),
    )

-- ---- one trace behind another

pub inputs-append : (t u : List ℕ) → length t % trace_step ≡ 0 → inputs_in (t ++ u) ≡ inputs_in t ++ inputs_in u
unfolding inputs_in
inputs-append [] u h = refl
inputs-append (a ∷ []) u h = absurd (omega arith)
inputs-append (a ∷ b ∷ []) u h = absurd (omega arith)
inputs-append (a ∷ b ∷ c ∷ t) u h =
    inputs-cons a b c (t ++ u) ∙ ap (λ (l : List Input). input_of a b c ∷ l) (inputs-append t u (omega arith))
    ∙ ap (λ (l : List Input). l ++ inputs_in u) (sym (inputs-cons a b c t))

-- running two traces one after the other is running them together, where the first is whole
module _ (p : Port) (t u : List ℕ) (whole : length t % trace_step ≡ 0) where
  pub append-port : port_after p (inputs_in (t ++ u)) ≡ port_after (port_after p (inputs_in t)) (inputs_in u)
  append-port = ap (port_after p) (inputs-append t u whole) ∙ after-append p (inputs_in t) (inputs_in u)

  pub append-numbers : numbers_of (answers p (inputs_in (t ++ u)))
      ≡ numbers_of (answers p (inputs_in t)) ++ numbers_of (answers (port_after p (inputs_in t)) (inputs_in u))
  append-numbers = ap (λ (l : List Input). numbers_of (answers p l)) (inputs-append t u whole) ∙ numbers-append p (inputs_in t) (inputs_in u)

-- two accepted calls, the second with the port that the first gave back, and one call over both traces: it gives the second's answer,
-- and the numbers of the first, then of the second
pub calls-joined : (p : Port) (t u a a' b b' old now : List ℕ) (r s q : PortAnswer) → TraceRun p t a a' r → r.verdict ≡ Ok tt
    → TraceRun r.port u b b' s → s.verdict ≡ Ok tt → TraceRun p (t ++ u) old now q → q.verdict ≡ Ok tt
    → (q ≡ s) × (now ≡ written (Ok tt) (numbers_of (answers p (inputs_in t)) ++ numbers_of (answers r.port (inputs_in u))) old)
calls-joined p t u a a' b b' old now r s q first r-ok second s-ok both q-ok =
    let whole = run-whole p t a a' r first r-ok in
    let between : r.port ≡ port_after p (inputs_in t) = ap (λ (x : PortAnswer). x.port) (run-accepted p t a a' r first r-ok).0 in
    let later = run-accepted r.port u b b' s second s-ok in
    let all = run-accepted p (t ++ u) old now q both q-ok in (
      all.0
          ∙ ap (λ (x : Port). record { port = x; verdict = (Ok tt) })
          (append-port p t u whole ∙ ap (λ (x : Port). port_after x (inputs_in u)) (sym between))
          ∙ sym later.0,
      all.1
          ∙ ap (λ (l : List ℕ). written (Ok tt) l old)
          (append-numbers p t u whole ∙ ap (λ (x : Port). numbers_of (answers p (inputs_in t)) ++ numbers_of (answers x (inputs_in u))) (sym between)),
    )
