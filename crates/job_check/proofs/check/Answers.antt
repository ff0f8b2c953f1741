-- `check` reads, measures, draws into its third work buffer, and compares.
use mathlib.Core.Path.{sym, ◌∙◌, subst}
use Rattle.refusal.proofs.Refusals.{passed-on}
use Rattle.job_check.specs.Checking.{CheckCall}
use native.Mathlib.Omega.{arith}
use Rattle.reading.proofs.Answers.{read-refused, read-accepted}
use Rattle.jobs.proofs.Calls.{draw-asks}
use Rattle.job_check.proofs.Calls.{check-fault, check-short, check-asks, check_done}
use Rattle.job_check.proofs.check.Goals as goal

pub returns-then-room-cells_of : goal.returns-then-room-cells_of
returns-then-room-cells_of c =
    let given = c.args in
    let w = read-accepted given.file.now _ (sym c.in_ok-job.was ∙ c.read.ensures) in
    check-short given.file.now _ w given.a.now given.b.now given.c.now _
    c.shortest-room.ensures _ c.too_short.ensures
    (omega (arith, c.if-room-cells_of.true, c.cells_of.ensures))

pub draw_into-requires : goal.draw_into-requires
draw_into-requires c =
    let w =
    read-accepted c.args.file.now _ (sym c.in_ok-job.was ∙ c.read.ensures) in
    let a = draw-asks c.args.file.now _ w in (
      a.0,
      a.1,
      omega (arith, c.if-room-cells_of.false, c.cells_of.ensures, c.shortest-room.ensures),
    )

pub compare-requires : goal.compare-requires
compare-requires c =
    let w =
    read-accepted c.args.file.now _ (sym c.in_ok-job.was ∙ c.read.ensures) in
    check-asks c.args.file.now _ w c.args.a.now c.args.b.now
    c.args.c.now _ c.shortest-room.ensures
    (omega (arith, c.if-room-cells_of.false, c.cells_of.ensures))
    (λ i. (c.type_inv.file i).fits) _ c.draw_into.ensures

pub returns : goal.returns
returns c =
    let given = c.args in
    let w = read-accepted given.file.now _ (sym c.in_ok-job.was ∙ c.read.ensures) in
    check_done given.file.now _ w given.a.now given.b.now given.c.now _
    c.shortest-room.ensures (omega (arith, c.if-room-cells_of.false, c.cells_of.ensures)) _ _ _ _
    c.draw_into.ensures c.compare.ensures.0 c.compare.ensures.1
    c.compare.ensures.2

pub returns-in_err-job : goal.returns-in_err-job
returns-in_err-job c =
    let given = c.args in
    subst (CheckCall _ _ _ _ _ _ _) (sym (passed-on _ _ c.from_residual.ensures.1)) (
    check-fault given.file.now _ given.a.now given.b.now given.c.now
    (read-refused _ given.file.now _ (sym c.in_err-job.was ∙ c.read.ensures)))
