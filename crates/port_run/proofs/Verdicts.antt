-- Laws of what a run answers: which verdict is given, what it says of the trace, and what is left of port and output.
use Rattle.std.specs.Prelude.{Ok, Err}
use mathlib.Core.Path.{◌≡◌, refl, sym, ap, ◌∙◌}
use mathlib.Core.Bool.{false, not}
use mathlib.Core.List.{List}
use Prim.Native.Nat.{ℕ, ◌*◌, ◌%◌, ◌≤◌, ◌<◌}
use lib.Dec.{eqb, ltb}
use lib.ListN.{length}
use borrow.Author.Tests.{eq-eqb, ne_eqb, eqb-true, lt-ltb, le-ltb, ltb-false, not-false}
use Rattle.refusal.specs.declared.Refusal.{Refusal}
use Rattle.refusal.specs.Refusals.{first_met, written}
use Rattle.refusal.proofs.Trials.{cond-accepted}
use Rattle.port.specs.declared.Port.{Port}
use Rattle.port.specs.declared.PortAnswer.{PortAnswer}
use Rattle.port.specs.Machine.{stepped}
use Rattle.port_theorems.specs.Runs.{port_after, answers}
use Rattle.port_run.specs.Traces.{trace_step, input_count, inputs_in, numbers_of, run_trials, run_verdict, TraceRun}
use Rattle.port_run.specs.Inputs.{Roomy, InputsRun}
use Rattle.refusal.specs.Refusals.{Verdict}

-- the first met, by the tests that were made
module _ (bytes room : ℕ) where
  pub gives-6 : (bytes % trace_step ≡ 0 → ⊥) → Err (record { number = 6; place = trace_step * input_count bytes }) ≡ first_met (run_trials bytes room)
  gives-6 h = rw (ne_eqb _ _ h)

  pub gives-5 : bytes % trace_step ≡ 0 → room < input_count bytes → Err (record { number = 5; place = input_count bytes }) ≡ first_met (run_trials bytes room)
  gives-5 h l = rw (eq-eqb _ _ h, lt-ltb _ _ l)

  pub gives_none : bytes % trace_step ≡ 0 → input_count bytes ≤ room → (Ok tt) ≡ first_met (run_trials bytes room)
  gives_none h l = rw (eq-eqb _ _ h, le-ltb _ _ l)

-- an accepted run has whole inputs, and a byte for each
module _ (t out : List ℕ) (accepted : (Ok tt) ≡ run_verdict t out) where
  both-passed : (not (eqb (length t % trace_step) 0) ≡ false) × (ltb (length out) (input_count (length t)) ≡ false)
  both-passed =
      let cut = cond-accepted (not (eqb (length t % trace_step) 0)) _ _ (sym accepted) in
      (cut.0, (cond-accepted (ltb (length out) (input_count (length t))) _ _ cut.1).0)

  pub accepted-whole : length t % trace_step ≡ 0
  accepted-whole = eqb-true _ _ (not-false _ both-passed.0)

  pub accepted-roomy : Roomy t out
  accepted-roomy = record { room = ltb-false _ _ both-passed.1 }

-- what is left of port and output, by the verdict
module _ (p : Port) (t old : List ℕ) where
  pub run-refused : (r : Refusal) → Err r ≡ run_verdict t old → TraceRun p t old old (record { port = p; verdict = Err r })
  run-refused r e =
      record {
        answer = ap (λ (v : Verdict). stepped v (port_after p (inputs_in t)) p) e;
        numbers = ap (λ (v : Verdict). written v (numbers_of (answers p (inputs_in t))) old) e;
      }

  pub run-done : (now : List ℕ) (q : Port) → (Ok tt) ≡ run_verdict t old → InputsRun p t old now q
      → TraceRun p t old now (record { port = q; verdict = (Ok tt) })
  run-done now q e r =
      record {
        answer = ap (λ (b : Port). record { port = b; verdict = (Ok tt) }) r.port ∙ ap (λ (v : Verdict). stepped v (port_after p (inputs_in t)) p) e;
        numbers = r.numbers ∙ ap (λ (v : Verdict). written v (numbers_of (answers p (inputs_in t))) old) e;
      }

-- the verdict of a step is the one it was given
step-says : (v : Verdict) (new old : Port) → (stepped v new old).verdict ≡ v
step-says (Ok _) new old = refl
step-says (Err r) new old = refl

-- what a run says of its trace, its port and its output
module _ (p : Port) (t old now : List ℕ) (r : PortAnswer) (run : TraceRun p t old now r) where
  pub run-verdict : r.verdict ≡ run_verdict t old
  run-verdict = ap (λ (a : PortAnswer). a.verdict) run.answer ∙ step-says (run_verdict t old) (port_after p (inputs_in t)) p

  pub run-accepted : r.verdict ≡ Ok tt
      → (r ≡ record { port = port_after p (inputs_in t); verdict = (Ok tt) }) × (now ≡ written (Ok tt) (numbers_of (answers p (inputs_in t))) old)
  run-accepted e =
      let accepted : run_verdict t old ≡ (Ok tt) = sym run-verdict ∙ e in (
        run.answer ∙ ap (λ (v : Verdict). stepped v (port_after p (inputs_in t)) p) accepted,
        run.numbers ∙ ap (λ (v : Verdict). written v (numbers_of (answers p (inputs_in t))) old) accepted,
      )

  pub run-whole : r.verdict ≡ Ok tt → length t % trace_step ≡ 0
  run-whole e = accepted-whole t old (sym e ∙ run-verdict)
