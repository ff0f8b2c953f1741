-- Laws of lists of inputs: one list behind another, and calls that follow each other.
use mathlib.Core.Path.{◌≡◌, refl, ap, ◌∙◌}
use mathlib.Core.List.{List, [], ◌∷◌, ◌++◌}
use Rattle.port.specs.declared.Port.{Port}
use Rattle.port.specs.declared.Input.{Input}
use Rattle.port.specs.declared.PortAnswer.{PortAnswer}
use Rattle.port.specs.Machine.{step}
use Rattle.port_theorems.specs.Runs.{port_after, answers, Calls, last_port, verdicts}
use Rattle.refusal.specs.Refusals.{Verdict}

pub after-append : (p : Port) (xs ys : List Input) → port_after p (xs ++ ys) ≡ port_after (port_after p xs) ys
after-append p [] ys = refl
after-append p (x ∷ xs) ys = after-append (step p x).port xs ys

pub answers-append : (p : Port) (xs ys : List Input) → answers p (xs ++ ys) ≡ answers p xs ++ answers (port_after p xs) ys
answers-append p [] ys = refl
answers-append p (x ∷ xs) ys = ap (λ (r : List Verdict). (step p x).verdict ∷ r) (answers-append (step p x).port xs ys)

-- calls give the machine's port and its answers
pub calls-port : (p : Port) (xs : List Input) (calls : List PortAnswer) → Calls p xs calls → last_port p calls ≡ port_after p xs
calls-port p [] [] k = refl
calls-port p [] (a ∷ rest) k = absurd k
calls-port p (x ∷ more) [] k = absurd k
calls-port p (x ∷ more) (a ∷ rest) k = calls-port a.port more rest k.1 ∙ ap (λ (r : PortAnswer). port_after r.port more) k.0

pub calls-each : (p : Port) (xs : List Input) (calls : List PortAnswer) → Calls p xs calls → verdicts calls ≡ answers p xs
calls-each p [] [] k = refl
calls-each p [] (a ∷ rest) k = absurd k
calls-each p (x ∷ more) [] k = absurd k
calls-each p (x ∷ more) (a ∷ rest) k =
    ap (λ (r : List Verdict). a.verdict ∷ r) (calls-each a.port more rest k.1)
    ∙ ap (λ (r : PortAnswer). r.verdict ∷ answers r.port more) k.0
