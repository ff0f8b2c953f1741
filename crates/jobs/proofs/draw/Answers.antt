-- `draw` reads, measures, and draws.
use mathlib.Core.Path.{sym, ◌∙◌, subst}
use Rattle.refusal.specs.Refusals.{Answered}
use Rattle.refusal.proofs.Refusals.{passed-on}
use native.Mathlib.Omega.{arith}
use Rattle.reading.proofs.Answers.{read-refused, read-accepted}
use Rattle.jobs.proofs.Calls.{draw-fault, draw-asks, draw-short, draw-done}
use Rattle.jobs.proofs.draw.Goals as goal

pub returns-then-out-cells_of : goal.returns-then-out-cells_of
returns-then-out-cells_of c =
    let given = c.args in
    let w = read-accepted given.file.now _ (sym c.in_ok-job.was ∙ c.read.ensures) in
    draw-short given.file.now _ w given.out.now _ c.too_short.ensures
    (omega (arith, c.if-out-cells_of.true, c.cells_of.ensures))

pub draw_into-requires : goal.draw_into-requires
draw_into-requires c =
    let w =
    read-accepted c.args.file.now _ (sym c.in_ok-job.was ∙ c.read.ensures) in
    let a = draw-asks c.args.file.now _ w in
    (a.0, a.1, omega (arith, c.if-out-cells_of.false, c.cells_of.ensures))

pub returns : goal.returns
returns c =
    let given = c.args in
    let w = read-accepted given.file.now _ (sym c.in_ok-job.was ∙ c.read.ensures) in
    draw-done given.file.now _ w given.out.now _
    (omega (arith, c.if-out-cells_of.false, c.cells_of.ensures)) c.draw_into.ensures

pub returns-in_err-job : goal.returns-in_err-job
returns-in_err-job c =
    let given = c.args in
    subst (Answered _ _ _ _) (sym (passed-on _ _ c.from_residual.ensures.1)) (
    draw-fault given.file.now _ given.out.now
    (read-refused _ given.file.now _ (sym c.in_err-job.was ∙ c.read.ensures)))
